use Rattle.std.proofs.Common.{length}
use Rattle.cell_table.proofs.checks.+have_neighbour_twice.Given as goal

abbrev pub decreases-have_neighbour_twice : goal.decreases-have_neighbour_twice
decreases-have_neighbour_twice l = length l.carriers.now
