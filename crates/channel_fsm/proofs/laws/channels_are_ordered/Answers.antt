use Rattle.channel_fsm.proofs.KeyFacts.{chan_total, chan_exact}
use Rattle.channel_fsm.proofs.laws.channels_are_ordered.Goals as goal

pub returns : goal.returns
returns c = record { total = chan_total; exact = chan_exact }
