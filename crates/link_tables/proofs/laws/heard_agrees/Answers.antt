use Rattle.link_tables.proofs.Cases.{heard_agree}
use Rattle.link_tables.proofs.laws.heard_agrees.Goals as goal

pub returns : goal.returns
returns c = record { law = heard_agree }
