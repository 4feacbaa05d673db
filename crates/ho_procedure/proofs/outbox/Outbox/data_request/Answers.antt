use Rattle.std.proofs.Common.{◌∷◌, ◌++◌, [], ◌∙◌, ap}
use Rattle.ho_procedure.specs.Messages.{data_request}
use Rattle.ho_procedure.proofs.outbox.Outbox.data_request.Goals as goal

pub returns-clause-sent : goal.returns-clause-sent
returns-clause-sent g c =
    let sent = rw (c.write_data_request.ensures, c.channel_number-channel.ensures) at c.put_abis.ensures.sent in
    sent ∙ ap (λ o. o.items ++ data_request c.args.chan c.args.layer3.now ∷ []) c.self.view_is
