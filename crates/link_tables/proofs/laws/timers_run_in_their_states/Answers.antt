use Rattle.link_tables.proofs.Cases.{heard_runs, settled_runs, clock_runs}
use Rattle.link_tables.proofs.laws.timers_run_in_their_states.Goals as goal

pub returns : goal.returns
returns c = record { heard = heard_runs; settled = settled_runs; bar = clock_runs }
