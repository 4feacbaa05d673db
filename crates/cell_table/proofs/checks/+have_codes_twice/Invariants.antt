use Rattle.std.proofs.Common.{length}
use Rattle.cell_table.proofs.checks.+have_codes_twice.Given as goal

abbrev pub decreases-have_codes_twice : goal.decreases-have_codes_twice
decreases-have_codes_twice l = length l.cells.now
