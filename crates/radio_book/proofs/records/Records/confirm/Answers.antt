use Rattle.std.proofs.Common.{Some, refl, sym, ◌∙◌, ap}
use Rattle.radio_tables.specs.declared.kinds.Stage.TheVariants.{Confirmed}
use Rattle.radio_book.specs.State.{record_of}
use Rattle.radio_book.proofs.RecordFacts.{pending_moves}
use Rattle.radio_book.proofs.records.Records.confirm.Goals as goal

pub move_attempt-requires : goal.move_attempt-requires
move_attempt-requires g c r a known =
    let call = c.in-Some-Pending.call in
    let pending = sym c.channel.ensures ∙ c.in-Some-Pending.is ∙ ap Some c.in-Some-Pending.field-0-is in
    pending_moves c.args.self.now call c.args.x Confirmed c.requires pending refl r a
    (sym (ap (λ b. record_of b call) c.step_from.ensures) ∙ known)
