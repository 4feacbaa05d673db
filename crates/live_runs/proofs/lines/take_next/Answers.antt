use Rattle.std.proofs.Common.{◌∙◌, List, ℕ, subst}
use Rattle.live_runs.specs.Live.{Takes}
use Rattle.live_runs.proofs.LiveFacts.{takes_line, takes_long}
use Rattle.live_runs.proofs.lines.take_next.Goals as goal

pub returns-in_ok-take_line-in-Line-clause-alone : goal.returns-in_ok-take_line-in-Line-clause-alone
returns-in_ok-take_line-in-Line-clause-alone g c = c.in_ok-take_line-in-Line.ensures.takes.goes.peer ∙ c.requires.alone

pub returns-in_ok-take_line-in-Line-clause-taken : goal.returns-in_ok-take_line-in-Line-clause-taken
returns-in_ok-take_line-in-Line-clause-taken g c =
    let gives = rw c.in-Line.is at c.in_ok-found.ensures.found in
    let takes = subst (λ (l : List ℕ). Takes c.args.rules.sims l c.args.live.now c.take_line.new.live) c.deref.ensures.value c.in_ok-take_line-in-Line.ensures.takes in
    λ _. takes_line c.args.rules.sims (g.R.Read.remaining c.args.reader.now) (g.R.Read.remaining c.read_next.new.reader) c.read_next.new.line.items c.args.live.now c.take_line.new.live gives takes

pub returns-in_ok-take_line-in-TooLong-clause-alone : goal.returns-in_ok-take_line-in-TooLong-clause-alone
returns-in_ok-take_line-in-TooLong-clause-alone g c = c.in_ok-take_line-in-TooLong.ensures.takes.goes.peer ∙ c.requires.alone

pub returns-in_ok-take_line-in-TooLong-clause-taken : goal.returns-in_ok-take_line-in-TooLong-clause-taken
returns-in_ok-take_line-in-TooLong-clause-taken g c =
    let gives = rw c.in-TooLong.is at c.in_ok-found.ensures.found in
    let takes = subst (λ (l : List ℕ). Takes c.args.rules.sims l c.args.live.now c.take_line-in-TooLong.new.live) c.deref-in-TooLong.ensures.value c.in_ok-take_line-in-TooLong.ensures.takes in
    λ _. takes_long c.args.rules.sims (g.R.Read.remaining c.args.reader.now) (g.R.Read.remaining c.read_next.new.reader) c.read_next.new.line.items c.args.live.now c.take_line-in-TooLong.new.live gives takes
