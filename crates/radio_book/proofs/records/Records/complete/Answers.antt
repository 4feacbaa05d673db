use Rattle.std.proofs.Common.{sym, ◌∙◌, ap}
use Rattle.radio_tables.proofs.EntryFacts.{call_kept}
use Rattle.radio_book.specs.State.{state_of}
use Rattle.radio_book.proofs.Frame.{serving_is_on}
use Rattle.radio_book.proofs.records.Records.complete.Goals as goal

pub switch_off_serving-requires : goal.switch_off_serving-requires
switch_off_serving-requires g c x serves =
    let r = c.in-Some.entry.call in
    let a = c.in-Some-attempt.attempt in
    let known = sym c.entry.ensures.call ∙ ap call_kept c.in-Some.is in
    let opened = sym (ap (λ q. q.attempt) c.record-record.ensures) ∙ c.in-Some-attempt.is in
    ap (λ b. state_of b x) c.set_entry.ensures
    ∙ serving_is_on c.args.call (state_of c.args.self.now) a.kind r.serving x (c.requires.serving_while_open c.args.call r a known opened)
    (sym (ap (λ q. q.serving) c.record-record.ensures) ∙ serves)
