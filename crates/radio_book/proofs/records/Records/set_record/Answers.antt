use Rattle.std.proofs.Common.{sym, ◌∙◌}
use Rattle.radio_tables.proofs.EntryFacts.{with_record}
use Rattle.radio_book.proofs.records.Records.set_record.Goals as goal

pub returns : goal.returns
returns g c = c.keep_timer.ensures ∙ with_record c.args.self.now c.args.call c.args.entry (sym c.requires.timer)
