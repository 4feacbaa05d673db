use Rattle.receipt_check.proofs.Gathered.{some_entry}
use Rattle.receipt_check.proofs.gather.Goals as goal

pub returns-in_default-flat : goal.returns-in_default-flat
returns-in_default-flat g c = record { gathers = (c.in_default.ensures, some_entry _ _ c.in_default.ensures c.in_default-flat.ensures.memory) }
