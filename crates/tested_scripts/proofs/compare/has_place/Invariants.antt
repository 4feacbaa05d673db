use Rattle.std.proofs.Common.{ℕ, ◌<◌, ◌≢◌, get_or}
use Rattle.tested_scripts.proofs.compare.has_place.Given as goal

-- none so far is it
abbrev pub invariant-loop-other : goal.invariant-loop-other
invariant-loop-other l = (k d : ℕ) → k < l.other-index → get_or l.places k d ≢ l.place
