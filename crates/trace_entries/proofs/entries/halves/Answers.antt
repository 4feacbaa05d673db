use Rattle.std.proofs.Common.{arith, codes}
use Rattle.trace_entries.proofs.EntryLemmas.{cut_by_text}
use Rattle.trace_entries.proofs.entries.halves.Goals as goal

pub returns : goal.returns
returns c = cut_by_text (codes " -> ") c.args.text.now c.split_once.result (omega arith) c.split_once.ensures.cases
