use Rattle.std.proofs.Common.{length}
use Rattle.bsc_runs.proofs.steps.+follow_steps.Given as goal

abbrev pub decreases-follow_steps : goal.decreases-follow_steps
decreases-follow_steps g l = length l.steps.now
