use Rattle.link_tables.proofs.Cases.{settled_agree}
use Rattle.link_tables.proofs.laws.settled_agrees.Goals as goal

pub returns : goal.returns
returns c = record { law = settled_agree }
