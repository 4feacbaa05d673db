use Rattle.std.proofs.Common.{length}
use Rattle.remainders.proofs.kept.kept_places.Given as goal

abbrev pub decreases-loop-rest : goal.decreases-loop-rest
decreases-loop-rest g l = length l.rest
