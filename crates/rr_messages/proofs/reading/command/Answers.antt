use Rattle.std.proofs.Common.{◌≡◌, ◌∙◌, sym, rules, length, take, ◌∷◌, [], get_or, refl, Err}
use Rattle.rr_elements.specs.ChanDescription.{HasChanFault}
use Rattle.rr_messages.specs.declared.fault.RrFault.TheVariants.{Element}
use Rattle.rr_messages.specs.declared.message.Rr.TheVariants.{HandoverCommand}
use Rattle.rr_messages.specs.declared.kind.MessageType.TheVariants as kind
use Rattle.rr_messages.proofs.Faults.{element-fault}
use Rattle.rr_messages.proofs.Texts.{seven_octets, body-text}
use Rattle.rr_messages.proofs.reading.command.Goals as goal

pub returns-in_err-channel-clause-fault : goal.returns-in_err-channel-clause-fault
returns-in_err-channel-clause-fault c =
    let p = c.in_ok-part.part.now in
    let fault = c.in_err-channel.field-0.0 in
    let answer : c.from_residual-in_err-channel.result ≡ Err (Element fault) = search rules in
    let bad : HasChanFault (get_or p 2 0 ∷ get_or p 3 0 ∷ get_or p 4 0 ∷ []) fault = search rules in
    let same : take 7 c.args.body.now ≡ get_or p 0 0 ∷ get_or p 1 0 ∷ get_or p 2 0 ∷ get_or p 3 0 ∷ get_or p 4 0 ∷ get_or p 5 0 ∷ get_or p 6 0 ∷ [] = sym c.in_ok-part.ensures.part ∙ seven_octets p (search rules) in
    rw answer (element-fault kind.HandoverCommand c.args.body.now fault c.in_ok-part.ensures.long (get_or p 0 0 ∷ get_or p 1 0 ∷ [], get_or p 2 0 ∷ get_or p 3 0 ∷ get_or p 4 0 ∷ [], get_or p 5 0 ∷ get_or p 6 0 ∷ [], refl, refl, same, bad))

pub returns-clause-text : goal.returns-clause-text
returns-clause-text c =
    let p = c.in_ok-part.part.now in
    let seven : length p ≡ 7 = search rules in
    let same = sym c.in_ok-part.ensures.part ∙ seven_octets p seven in
    body-text (HandoverCommand c.in_ok-cell.cell c.in_ok-channel.channel (get_or p 5 0) c.in_ok-power.power) kind.HandoverCommand c.args.body.now refl c.in_ok-part.ensures.long (get_or p 0 0 ∷ get_or p 1 0 ∷ [], get_or p 2 0 ∷ get_or p 3 0 ∷ get_or p 4 0 ∷ [], get_or p 6 0 ∷ [], c.in_ok-cell.ensures.text, c.in_ok-channel.ensures.text, c.in_ok-power.ensures.text, same)
