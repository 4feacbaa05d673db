use Rattle.std.proofs.Common.{◌≡◌, ◌++◌, take}
use Rattle.std.specs.List.{flat_map}
use Rattle.call_worker.proofs.closing.receipts_of.Given as goal

abbrev pub invariant-loop-worker : goal.invariant-loop-worker
invariant-loop-worker g l = l.all.items ≡ l.front ++ flat_map (λ e. e.receipts.items) (take l.worker-index l.workers)
