use Rattle.link_states.proofs.Written.{channels_are_read_back}
use Rattle.link_states.proofs.laws.channels_are_read_back.Goals as goal

pub returns : goal.returns
returns c = record { law = channels_are_read_back }
