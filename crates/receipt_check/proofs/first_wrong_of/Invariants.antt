use Rattle.std.proofs.Common.{length, take}
use Rattle.std.specs.List.{flat_map}
use Rattle.receipt_check.specs.Gathering.{StandsAt}
use Rattle.receipt_check.proofs.first_wrong_of.Given as goal

abbrev pub invariant-loop-list : goal.invariant-loop-list
invariant-loop-list g l = StandsAt l.desk.history (flat_map (λ v. v.items) (take l.list-index l.lists)) (length (flat_map (λ v. v.items) (take l.list-index l.lists)))
