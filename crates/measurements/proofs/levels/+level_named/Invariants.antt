use Rattle.std.proofs.Common.{length}
use Rattle.measurements.proofs.levels.+level_named.Given as goal

abbrev pub decreases-level_named : goal.decreases-level_named
decreases-level_named l = length l.neighbours.now
