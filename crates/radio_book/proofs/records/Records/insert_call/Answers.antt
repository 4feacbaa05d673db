use Rattle.std.proofs.Common.{sym, ◌∙◌}
use Rattle.radio_tables.proofs.EntryFacts.{with_record}
use Rattle.radio_book.proofs.records.Records.insert_call.Goals as goal

pub returns-clause-ok : goal.returns-clause-ok
returns-clause-ok g c =
    c.in_ok-add_entry.ensures.ok ∙ with_record c.args.self.now c.args.call c.args.entry (c.requires.unarmed ∙ sym c.requires.timer)
