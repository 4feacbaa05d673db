use Rattle.link_machine.proofs.Agreeing.{settled_agrees}
use Rattle.link_machine.proofs.laws.settled_agrees.Goals as goal

pub returns : goal.returns
returns c = record { law = settled_agrees }
