use Rattle.receipt_check.proofs.Gathered.{stand_more, stand_all, wrong_among}
use Rattle.call_worker.proofs.closing.first_wrong_of.Goals as goal

pub returns-in-Some : goal.returns-in-Some
returns-in-Some g c = let w = rw (c.as_slice.ensures.value, c.worker-item.is) at c.in-Some.ensures in wrong_among (λ e. e.receipts.items) _ _ _ c.worker-item.result _ c.loop-worker-test.true c.loop-worker.invariant w

pub loop-worker-preserved : goal.loop-worker-preserved
loop-worker-preserved g c = let w = rw (c.as_slice.ensures.value, c.worker-item.is) at c.in_default.ensures in stand_more (λ e. e.receipts.items) _ _ _ c.worker-item.result c.loop-worker-test.true c.loop-worker.invariant w

pub returns : goal.returns
returns g c = stand_all (λ e. e.receipts.items) _ _ _ c.loop-worker-test.false c.loop-worker.invariant
