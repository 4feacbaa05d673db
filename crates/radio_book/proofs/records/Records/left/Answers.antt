use Rattle.std.proofs.Common.{sym, ◌∙◌}
use Rattle.radio_book.specs.State.{state_of}
use Rattle.radio_book.proofs.Frame.{serving_is_on}
use Rattle.radio_book.proofs.records.Records.left.Goals as goal

pub switch_off_serving-requires : goal.switch_off_serving-requires
switch_off_serving-requires g c x serves =
    let r = c.in-Some.record in
    let a = c.in-Some-attempt.attempt in
    let known = sym c.record.ensures ∙ c.in-Some.is in
    serving_is_on c.args.call (state_of c.args.self.now) a.kind r.serving x (c.requires.serving_while_open c.args.call r a known c.in-Some-attempt.is) serves
