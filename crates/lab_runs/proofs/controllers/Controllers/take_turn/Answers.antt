use Rattle.lab_runs.proofs.CourseFacts.{first_taken, peer_taken}
use Rattle.lab_runs.proofs.controllers.Controllers.take_turn.Goals as goal

pub returns-in-First-clause-turn : goal.returns-in-First-clause-turn
returns-in-First-clause-turn g c = first_taken c.args.self.now _ c.take_turn.result c.take_turn.ensures.side c.take_turn.ensures.turn

pub returns-in-Some-clause-turn : goal.returns-in-Some-clause-turn
returns-in-Some-clause-turn g c = peer_taken c.args.self.now _ _ c.take_turn-in-Some.result c.in-Some.is c.take_turn-in-Some.ensures.side c.take_turn-in-Some.ensures.turn
