use Rattle.radio_tables.proofs.TableFacts.{err_holds}
use Rattle.receipt_check.proofs.Gathered.{some_among}
use Rattle.call_worker.proofs.Closings.{some_before, some_behind}
use Rattle.call_worker.proofs.closing.receipts_of.Goals as goal

pub returns-in_err-push_all-clause-memory : goal.returns-in_err-push_all-clause-memory
returns-in_err-push_all-clause-memory g c = err_holds c.from_residual.result (some_before _ _ c.in_err-push_all.ensures.memory)

pub returns-in_err-push_all-2-clause-memory : goal.returns-in_err-push_all-2-clause-memory
returns-in_err-push_all-2-clause-memory g c =
    let some = rw (c.as_slice.ensures.value, c.worker-item.is) at c.in_err-push_all-2.ensures.memory in
    err_holds c.from_residual-in_err-push_all-2.result (some_behind _ _ (some_among (λ e. e.receipts.items) _ _ c.worker-item.result c.loop-worker-test.true some))
