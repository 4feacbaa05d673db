use Rattle.std.proofs.Common.{length}
use Rattle.script_reasons.proofs.reasons.+first_wrong.Given as goal

abbrev pub decreases-first_wrong : goal.decreases-first_wrong
decreases-first_wrong l = length l.slots.now
