use Rattle.std.proofs.Common.{length}
use Rattle.lab_script.proofs.values.+filled.Given as goal

abbrev pub decreases-filled : goal.decreases-filled
decreases-filled l = length l.slots.now
