use Rattle.std.proofs.Common.{codes}
use Rattle.trace_entries.proofs.EntryLemmas.{behind_by_strip}
use Rattle.trace_entries.proofs.entries.entry_text.Goals as goal

pub returns : goal.returns
returns c = behind_by_strip (codes "event ") c.args.line.now c.strip_prefix.result c.strip_prefix.ensures.cases
