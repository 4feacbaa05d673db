use Rattle.cell_table.proofs.Nine.{nine_name_one_twice}
use Rattle.cell_table.proofs.laws.nine_timeslots_name_one_twice.Goals as goal

pub returns : goal.returns
returns c = record { law = nine_name_one_twice }
