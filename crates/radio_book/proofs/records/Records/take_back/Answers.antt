use Rattle.std.proofs.Common.{◌∙◌, sym, ap, is_some}
use Rattle.radio_book.proofs.RunBack.{taken_back}
use Rattle.radio_book.proofs.records.Records.take_back.Goals as goal

pub returns-clause-book : goal.returns-clause-book
returns-clause-book g c =
    let opened = sym (ap (λ r. is_some r.attempt) c.record-found.ensures) ∙ c.if-is_none.ensures in
    c.run_back.ensures
    ∙ taken_back c.args.call c.args.entry.call c.args.refusal c.args.self.now c.requires.sound c.requires.entry opened
