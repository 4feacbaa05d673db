use Rattle.std.proofs.Common.{◌∙◌}
use Rattle.journal_files.proofs.Spans.{still_handed}
use Rattle.journal_files.proofs.journal.Journal.begin_span.Goals as goal

pub returns-clause-file : goal.returns-clause-file
returns-clause-file g c =
    still_handed g.R.File.Write.contents _ _ _ _ c.match-remove_old.result c.in-Ok-write_begun.ensures.written (c.deref.ensures.value ∙ c.in-Ok.ensures) c.remove_old.ensures.file
