use Rattle.decoded_lines.proofs.LineLemmas.{Follows}
use Rattle.decoded_lines.proofs.answers.answer_lines.Given as goal

abbrev pub invariant-loop-number : goal.invariant-loop-number
invariant-loop-number g l = Follows g.row.A.Denot l.asked.link (g.R.Read.remaining l.initial.reader) (g.R.Read.remaining l.reader) l.counts.refused
