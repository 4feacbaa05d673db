use Rattle.std.proofs.Common.{sym, ◌∙◌, ap}
use Rattle.radio_tables.proofs.EntryFacts.{call_kept}
use Rattle.radio_book.proofs.RecordFacts.{target_cell}
use Rattle.radio_book.proofs.records.Records.reserve.Goals as goal

pub use_reference-requires-clause-cell : goal.use_reference-requires-clause-cell
use_reference-requires-clause-cell g c =
    let known = sym c.entry.ensures.call ∙ ap call_kept c.in-Some.is in
    let opened = ap (λ r. r.attempt) (sym c.record.ensures) ∙ c.in-Some-attempt.is in
    rw c.reference_at-reference.ensures
    (target_cell c.args.self.now c.requires c.args.call c.in-Some.entry.call c.in-Some-attempt.attempt c.in-Some-target.target known opened c.in-Some-target.is)
