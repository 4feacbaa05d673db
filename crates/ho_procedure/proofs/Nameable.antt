-- Channels that messages can name.
use Rattle.std.proofs.Common.{◌≡◌, ◌<◌, true, nat_lt, refl, arith}
use Rattle.std.proofs.lemmas.Bool.Decides.{nat_tests}
use Rattle.channel_fsm.specs.declared.ChanId.{ChanId}
use Rattle.ho_procedure.specs.Plan.{Ends, Sends}
use Rattle.ho_procedure.specs.Messages.{activation}
use Rattle.ho_procedure.specs.Procedure.{opened_plan}

pub opened : (x : ChanId) → x.tn < 8 → opened_plan x ≡ Sends (activation x) Ends
unfolding opened_plan
opened x few = let is : nat_lt x.tn 8 ≡ true = grind (arith, nat_tests) in rw is refl
