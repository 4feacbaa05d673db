use Rattle.live_runs.proofs.LiveFacts.{kept_rests, anew_rests}
use Rattle.live_runs.proofs.taking.Live.rest.Goals as goal

pub returns-then-first_entries-entries-clause-rested : goal.returns-then-first_entries-entries-clause-rested
returns-then-first_entries-entries-clause-rested g c = kept_rests c.args.self.now

pub returns-clause-rested : goal.returns-clause-rested
returns-clause-rested g c = anew_rests c.args.self.now _ c.in_ok-begin_anew.ensures.anew c.begin_anew.ensures.peer c.begin_anew.ensures.sim
