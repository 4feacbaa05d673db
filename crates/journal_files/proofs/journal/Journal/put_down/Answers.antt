use Rattle.std.proofs.Common.{arith}
use Rattle.std.proofs.lemmas.Grind.{common_steps}
use Rattle.journal_files.proofs.Spans.{appends_nothing}
use Rattle.journal_files.proofs.journal.Journal.put_down.Goals as goal

pub returns-then-is_empty-clause-written : goal.returns-then-is_empty-clause-written
returns-then-is_empty-clause-written g c = appends_nothing _ _ (grind (arith, common_steps))
