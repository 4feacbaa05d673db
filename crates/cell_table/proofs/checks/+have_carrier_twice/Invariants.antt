use Rattle.std.proofs.Common.{length}
use Rattle.cell_table.proofs.checks.+have_carrier_twice.Given as goal

abbrev pub decreases-have_carrier_twice : goal.decreases-have_carrier_twice
decreases-have_carrier_twice l = length l.trx.now
