use Rattle.std.proofs.Common.{length}
use Rattle.cell_table.proofs.checks.+have_colour_twice.Given as goal

abbrev pub decreases-have_colour_twice : goal.decreases-have_colour_twice
decreases-have_colour_twice l = length l.cells.now
