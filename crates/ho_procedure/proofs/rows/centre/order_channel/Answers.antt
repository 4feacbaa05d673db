use Rattle.std.proofs.Common.{refl}
use Rattle.ho_procedure.specs.Plan.{Ends, Sends}
use Rattle.ho_procedure.specs.Messages.{data_request}
use Rattle.radio_book.specs.declared.event.Event.TheVariants.{Order}
use Rattle.ho_procedure.specs.Procedure.{once_done, order_channel}
use Rattle.ho_procedure.proofs.Going.{stays}
use Rattle.ho_procedure.proofs.rows.centre.order_channel.Goals as goal

pub returns-clause-row : goal.returns-clause-row
unfolding order_channel
returns-clause-row g c =
    c.in_ok-make_unread_room.ensures.ok (once_done (Order c.args.call) (Sends (data_request c.args.serving c.args.layer3.now) Ends)) _ _
    (c.in_ok-ask_done.ensures.goes (Sends (data_request c.args.serving c.args.layer3.now) Ends) _ _
    (rw c.in-On.is (c.send_data_request.ensures.goes Ends _ _ (stays _ _ _ _ _ refl))))
