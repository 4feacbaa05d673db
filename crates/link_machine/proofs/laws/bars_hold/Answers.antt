use Rattle.link_machine.proofs.Agreeing.{bars_hold}
use Rattle.link_machine.proofs.laws.bars_hold.Goals as goal

pub returns : goal.returns
returns c = record { law = bars_hold }
