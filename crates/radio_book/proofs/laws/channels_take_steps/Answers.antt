use Rattle.radio_book.proofs.ChannelSteps.{channels_take_steps}
use Rattle.radio_book.proofs.laws.channels_take_steps.Goals as goal

pub returns : goal.returns
returns c = record { steps = channels_take_steps }
