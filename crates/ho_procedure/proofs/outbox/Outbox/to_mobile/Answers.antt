use Rattle.std.proofs.Common.{◌∷◌, ◌++◌, [], ◌∙◌, ap}
use Rattle.ho_procedure.specs.Messages.{to_mobile}
use Rattle.ho_procedure.proofs.outbox.Outbox.to_mobile.Goals as goal

pub returns-clause-sent : goal.returns-clause-sent
returns-clause-sent g c =
    let sent = rw (c.write_data_request.ensures, c.channel_number-channel.ensures, c.as_slice.ensures.value, c.write_rr.ensures.text) at c.put_abis.ensures.sent in
    sent ∙ ap (λ o. o.items ++ to_mobile c.args.chan c.args.message.now ∷ []) c.self.view_is
