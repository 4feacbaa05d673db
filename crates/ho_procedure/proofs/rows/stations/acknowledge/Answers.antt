use Rattle.std.proofs.Common.{refl}
use Rattle.ho_procedure.specs.Plan.{Ends, Sends}
use Rattle.ho_procedure.specs.Messages.{handover_request_ack}
use Rattle.ho_procedure.specs.Procedure.{acknowledge}
use Rattle.ho_procedure.proofs.Going.{stays}
use Rattle.ho_procedure.proofs.rows.stations.acknowledge.Goals as goal

pub returns-clause-row : goal.returns-clause-row
unfolding acknowledge
returns-clause-row g c =
    c.in_ok-ask_done.ensures.goes (Sends (handover_request_ack c.args.call c.args.command.now) Ends) _ _
    (rw c.in-On.is (c.send_handover_request_ack.ensures.goes Ends _ _ (stays _ _ _ _ _ refl)))
