use Rattle.live_runs.proofs.LiveFacts.{went}
use Rattle.live_runs.proofs.taking.Live.follow.Goals as goal

pub returns-clause-goes : goal.returns-clause-goes
returns-clause-goes g c = went c.args.item c.args.self.now _ c.follow.new.self c.in_ok-follow.ensures.follows c.forget_turns.ensures.controllers
