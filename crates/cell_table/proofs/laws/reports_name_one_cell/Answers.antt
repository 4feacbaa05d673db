use Rattle.cell_table.proofs.NeighbourFacts.{reports_name_one}
use Rattle.cell_table.proofs.laws.reports_name_one_cell.Goals as goal

pub returns : goal.returns
returns c = record { law = reports_name_one }
