use Rattle.receipt_check.specs.Gathering.{StandsAt}
use Rattle.receipt_check.proofs.first_wrong.Given as goal

abbrev pub invariant-loop-receipt : goal.invariant-loop-receipt
invariant-loop-receipt g l = StandsAt l.desk.history l.all l.receipt-index
