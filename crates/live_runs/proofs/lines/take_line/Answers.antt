use Rattle.live_runs.proofs.LiveFacts.{takes_and_rests, short_for}
use Rattle.live_runs.proofs.lines.take_line.Goals as goal

pub returns-in_ok-hear_anew : goal.returns-in_ok-hear_anew
returns-in_ok-hear_anew g c = record {
  takes = takes_and_rests c.args.rules.sims c.args.line.now c.args.live.now _ c.rest.new.self c.in_ok-take_or_answer.ensures.takes c.in_ok-rest.ensures.rested;
  short = short_for c.entries_of.result c.args.rules.entries c.rest.new.self.course c.entries_of.ensures.entries c.in_ok-rest.ensures.short;
}

pub returns-else-branch : goal.returns-else-branch
returns-else-branch g c = record {
  takes = takes_and_rests c.args.rules.sims c.args.line.now c.args.live.now _ c.rest.new.self c.in_ok-take_or_answer.ensures.takes c.in_ok-rest.ensures.rested;
  short = short_for c.entries_of.result c.args.rules.entries c.rest.new.self.course c.entries_of.ensures.entries c.in_ok-rest.ensures.short;
}
