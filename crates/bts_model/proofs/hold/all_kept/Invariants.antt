use Rattle.std.proofs.Common.{◌≡◌, ◌++◌, drop}
use Rattle.bts_model.specs.Holds.{kept_of}
use Rattle.bts_model.proofs.hold.all_kept.Given as goal

-- what was taken so far, and what is kept by the holds that are left
abbrev pub invariant-loop-hold : goal.invariant-loop-hold
invariant-loop-hold g l = l.kept.items ++ kept_of l.place (drop l.hold-index l.holds) ≡ kept_of l.place l.holds
