use Rattle.receipt_check.proofs.Gathered.{stand_more, stand_all, wrong_among}
use Rattle.receipt_check.proofs.first_wrong_of.Goals as goal

pub returns-in-Some : goal.returns-in-Some
returns-in-Some g c = let w = rw (c.as_slice.ensures.value, c.list-item.is) at c.in-Some.ensures in wrong_among (λ v. v.items) _ _ _ c.list-item.result _ c.loop-list-test.true c.loop-list.invariant w

pub loop-list-preserved : goal.loop-list-preserved
loop-list-preserved g c = let w = rw (c.as_slice.ensures.value, c.list-item.is) at c.in_default.ensures in stand_more (λ v. v.items) _ _ _ c.list-item.result c.loop-list-test.true c.loop-list.invariant w

pub returns : goal.returns
returns g c = stand_all (λ v. v.items) _ _ _ c.loop-list-test.false c.loop-list.invariant
