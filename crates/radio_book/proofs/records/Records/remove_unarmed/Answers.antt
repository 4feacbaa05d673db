use Rattle.std.proofs.Common.{◌∙◌}
use Rattle.radio_tables.proofs.EntryFacts.{without_unarmed}
use Rattle.radio_book.proofs.records.Records.remove_unarmed.Goals as goal

pub returns : goal.returns
returns g c = c.remove_call.ensures ∙ without_unarmed c.args.self.now c.args.call c.requires
