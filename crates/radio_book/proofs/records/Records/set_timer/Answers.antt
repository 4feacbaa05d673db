use Rattle.std.proofs.Common.{◌∙◌}
use Rattle.radio_tables.proofs.EntryFacts.{with_timer}
use Rattle.radio_book.proofs.records.Records.set_timer.Goals as goal

pub returns : goal.returns
returns g c = c.set_entry.ensures ∙ with_timer c.args.self.now c.args.call c.args.entry c.requires
