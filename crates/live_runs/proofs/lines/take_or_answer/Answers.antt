use Rattle.std.proofs.Common.{◌∙◌, sym}
use Rattle.lab_runs.proofs.CourseFacts.{where_ok}
use Rattle.live_runs.proofs.LiveFacts.{refused_takes, other_takes}
use Rattle.live_runs.proofs.lines.take_or_answer.Goals as goal

pub returns-then-is_refused : goal.returns-then-is_refused
returns-then-is_refused g c = record {
  takes = where_ok _ c.refuse_simulators.result (refused_takes c.args.rules.sims c.args.line.now c.args.live.now (sym c.is_refused.ensures ∙ c.if-is_refused.true));
}

pub returns : goal.returns
returns g c = record {
  takes = where_ok _ c.say_unmet.result (other_takes c.args.rules.sims c.args.line.now c.args.live.now c.take.new.self (sym c.is_refused.ensures ∙ c.if-is_refused.false) c.in_ok-take.ensures.takes);
}
