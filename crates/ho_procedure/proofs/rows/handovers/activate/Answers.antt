use Rattle.std.proofs.Common.{refl}
use Rattle.ho_procedure.specs.Plan.{Ends, Sends}
use Rattle.ho_procedure.specs.Messages.{target_activation}
use Rattle.ho_procedure.specs.Procedure.{activate_plan}
use Rattle.ho_procedure.proofs.Going.{stays}
use Rattle.ho_procedure.proofs.rows.handovers.activate.Goals as goal

pub returns-clause-row : goal.returns-clause-row
unfolding activate_plan
returns-clause-row g c =
    c.in_ok-ask_done.ensures.goes (Sends (target_activation c.args.target c.args.reference) Ends) _ _
    (rw c.in-On.is (c.send_target_activation.ensures.goes Ends _ _ (stays _ _ _ _ _ refl)))
