use Rattle.link_states.proofs.Written.{calls_are_read_back}
use Rattle.link_states.proofs.laws.calls_are_read_back.Goals as goal

pub returns : goal.returns
returns c = record { law = calls_are_read_back }
