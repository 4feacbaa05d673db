use Rattle.std.proofs.Common.{rules}
use Rattle.receipt_check.proofs.Gathered.{some_among}
use Rattle.receipt_check.proofs.flat.Goals as goal

pub returns-in_err-push_all-clause-memory : goal.returns-in_err-push_all-clause-memory
returns-in_err-push_all-clause-memory g c =
    let some = rw (c.as_slice.ensures.value, c.list-item.is) at c.in_err-push_all.ensures.memory in
    let told = some_among (λ list. list.items) _ _ c.list-item.result c.loop-list-test.true some in
    search (rules, told)
