use Rattle.std.proofs.Common.{sym, ◌∙◌}
use Rattle.journal_files.proofs.Numbered.{named}
use Rattle.journal_files.proofs.names.number_of.Goals as goal

pub returns-then-is_ending : goal.returns-then-is_ending
returns-then-is_ending c =
    named c.args.name.now _ _ _ c.split_at.ensures.front c.split_at.ensures.back (sym c.is_ending.ensures ∙ c.if-is_ending.true) c.decimal.ensures
