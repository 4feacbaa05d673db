use Rattle.std.proofs.Common.{length}
use Rattle.bsc_runs.proofs.steps.+end_steps.Given as goal

abbrev pub decreases-end_steps : goal.decreases-end_steps
decreases-end_steps g l = length l.steps.now
