use Rattle.std.proofs.Common.{length}
use Rattle.cell_table.proofs.checks.+have_slot_twice.Given as goal

abbrev pub decreases-have_slot_twice : goal.decreases-have_slot_twice
decreases-have_slot_twice l = length l.slots.now
