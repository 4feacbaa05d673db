use Rattle.receipt_check.proofs.Gathered.{some_entry}
use Rattle.call_worker.proofs.closing.is_whole.Goals as goal

pub returns-in_default-receipts_of : goal.returns-in_default-receipts_of
returns-in_default-receipts_of g c = (c.in_default.ensures, some_entry _ _ c.in_default.ensures c.in_default-receipts_of.ensures.memory)
