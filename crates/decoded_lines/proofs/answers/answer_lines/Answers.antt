use Rattle.std.proofs.Common.{◌∙◌, Ok, ap, sym}
use Rattle.decoded_lines.proofs.LineLemmas.{follows_next, follows_end}
use Rattle.decoded_lines.proofs.answers.answer_lines.Goals as goal

pub returns-then-not-branch-clause-all : goal.returns-then-not-branch-clause-all
returns-then-not-branch-clause-all g c =
    let kept = c.in_ok-answer_next.ensures.kept (ap Ok c.if-not-branch.true) in
    let judged = follows_end g.row.A.Denot c.args.asked.link (g.R.Read.remaining c.args.reader.now) (g.R.Read.remaining c.loop-number.reader) c.loop-number.counts.refused c.loop-number.invariant (c.in_ok-answer_next.ensures.end (ap Ok c.if-not-branch.true)) in
    λ none. judged.0 (sym kept ∙ none)

pub returns-then-not-branch-clause-one : goal.returns-then-not-branch-clause-one
returns-then-not-branch-clause-one g c =
    let kept = c.in_ok-answer_next.ensures.kept (ap Ok c.if-not-branch.true) in
    let judged = follows_end g.row.A.Denot c.args.asked.link (g.R.Read.remaining c.args.reader.now) (g.R.Read.remaining c.loop-number.reader) c.loop-number.counts.refused c.loop-number.invariant (c.in_ok-answer_next.ensures.end (ap Ok c.if-not-branch.true)) in
    λ some. judged.1 (λ none. some (kept ∙ none))

pub loop-number-preserved : goal.loop-number-preserved
loop-number-preserved g c =
    follows_next g.row.A.Denot c.args.asked.link (g.R.Read.remaining c.args.reader.now) (g.R.Read.remaining c.loop-number.reader) (g.R.Read.remaining c.answer_next.new.reader) c.loop-number.counts.refused c.answer_next.new.counts.refused c.loop-number.invariant (c.in_ok-answer_next.ensures.line (ap Ok c.if-not-branch.false))
