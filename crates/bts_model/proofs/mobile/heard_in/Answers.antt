use Rattle.rr_messages.proofs.Faults.{no_fault}
use Rattle.bts_model.proofs.mobile.heard_in.Goals as goal

-- octets with a fault are a text of no message
pub returns-in-Err : goal.returns-in-Err
returns-in-Err c = λ message text. no_fault message _ _ text c.in-Err.ensures.fault
