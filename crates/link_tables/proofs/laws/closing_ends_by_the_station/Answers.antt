use Rattle.link_tables.proofs.Cases.{closing_ends}
use Rattle.link_tables.proofs.laws.closing_ends_by_the_station.Goals as goal

pub returns : goal.returns
returns c = record { law = closing_ends }
