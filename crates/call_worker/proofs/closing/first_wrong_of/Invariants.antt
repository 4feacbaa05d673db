use Rattle.std.proofs.Common.{length, take}
use Rattle.std.specs.List.{flat_map}
use Rattle.receipt_check.specs.Gathering.{StandsAt}
use Rattle.call_worker.proofs.closing.first_wrong_of.Given as goal

abbrev pub invariant-loop-worker : goal.invariant-loop-worker
invariant-loop-worker g l = StandsAt l.desk.history (flat_map (λ e. e.receipts.items) (take l.worker-index l.workers)) (length (flat_map (λ e. e.receipts.items) (take l.worker-index l.workers)))
