use Rattle.std.proofs.Common.{length}
use Rattle.decoded_lines.proofs.unused.print_unused.Given as goal

abbrev pub decreases-loop-leading : goal.decreases-loop-leading
decreases-loop-leading g l = length l.rest
