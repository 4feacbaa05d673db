use Rattle.std.proofs.Common.{length}
use Rattle.remainders.proofs.choices.Walk.look_before.Given as goal

abbrev pub decreases-loop-left : goal.decreases-loop-left
decreases-loop-left g l = length l.left
