use Rattle.std.proofs.Common.{ℕ, List, subst}
use Rattle.decoded_lines.specs.Answers.{IsCounted}
use Rattle.decoded_lines.proofs.LineLemmas.{counts_line}
use Rattle.decoded_lines.proofs.answers.answer_next.Goals as goal

pub returns-in_ok-count_line-in-Line-clause-line : goal.returns-in_ok-count_line-in-Line-clause-line
returns-in_ok-count_line-in-Line-clause-line g c =
    let A = g.row.A.Denot in
    let link = c.args.asked.link in
    let before = c.args.counts.now.refused in
    let with_it = c.count_line.new.counts.refused in
    let gives = rw c.in-Line.is at c.in_ok-read_next.ensures.found in
    let counted = subst (λ (l : List ℕ). IsCounted A link l before with_it) c.deref.ensures.value c.in_ok-count_line-in-Line.ensures.counted in
    λ _. counts_line A link (g.R.Read.remaining c.args.reader.now) (g.R.Read.remaining c.read_next.new.reader) c.read_next.new.line.items before with_it gives counted
