use Rattle.live_runs.proofs.LiveFacts.{where_played}
use Rattle.live_runs.proofs.lines.live_run.Goals as goal

pub returns : goal.returns
returns g c = record {
  handled = where_played c.args.rules.sims _ (g.R.Read.remaining c.args.reader.now) c.in_ok-live.live c.run_to_end.new.live c.run_to_end.result c.in_ok-live.ensures.opening c.in_ok-live.ensures.peer c.in_ok-live.ensures.sim c.run_to_end.ensures.all;
}
