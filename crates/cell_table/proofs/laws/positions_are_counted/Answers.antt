use Rattle.std.proofs.Common.{sym, ◌∙◌}
use Rattle.cell_table.proofs.Twice.{number_twice}
use Rattle.cell_table.proofs.NeighbourFacts.{is_at_is}
use Rattle.cell_table.proofs.laws.positions_are_counted.Goals as goal

pub returns : goal.returns
returns c = record { law = λ ba place carrier small once. is_at_is ba place carrier small (sym (number_twice ba) ∙ once) }
