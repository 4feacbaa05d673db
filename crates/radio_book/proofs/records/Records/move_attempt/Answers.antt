use Rattle.std.proofs.Common.{rules, sym, ◌∙◌, ap}
use Rattle.radio_tables.proofs.EntryFacts.{call_kept}
use Rattle.radio_book.proofs.records.Records.move_attempt.Goals as goal

pub move_to-requires-clause-inverses : goal.move_to-requires-clause-inverses
move_to-requires-clause-inverses g c =
    let known = sym c.entry.ensures.call ∙ ap call_kept c.in-Some.is in
    let opened = sym (ap (λ q. q.attempt) c.record.ensures) ∙ c.in-Some-attempt.is in
    c.requires c.in-Some.entry.call c.in-Some-attempt.attempt known opened (Prim.search rules)
