use Rattle.std.proofs.Common.{refl}
use Rattle.ho_procedure.specs.Plan.{Ends, Sends}
use Rattle.ho_procedure.specs.Messages.{to_mobile}
use Rattle.ho_procedure.specs.Procedure.{send_command}
use Rattle.ho_procedure.proofs.Going.{stays}
use Rattle.ho_procedure.proofs.rows.stations.send_command.Goals as goal

pub returns-clause-row : goal.returns-clause-row
unfolding send_command
returns-clause-row g c =
    c.in_ok-ask_done.ensures.goes (Sends (to_mobile c.args.serving c.args.command.now) Ends) _ _
    (rw c.in-On.is (c.send_to_mobile.ensures.goes Ends _ _ (stays _ _ _ _ _ refl)))
