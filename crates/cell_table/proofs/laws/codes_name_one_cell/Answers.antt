use Rattle.cell_table.proofs.Lookups.{codes_name_one}
use Rattle.cell_table.proofs.laws.codes_name_one_cell.Goals as goal

pub returns : goal.returns
returns c = record { law = codes_name_one }
