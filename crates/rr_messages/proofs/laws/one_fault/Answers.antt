use Rattle.rr_messages.proofs.Faults.{no_fault, one_fault}
use Rattle.rr_messages.proofs.laws.one_fault.Goals as goal

pub returns : goal.returns
returns c = record { unique = record { text = no_fault; fault = one_fault } }
