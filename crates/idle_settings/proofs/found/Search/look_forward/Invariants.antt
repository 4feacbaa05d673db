use Rattle.std.proofs.Common.{length}
use Rattle.idle_settings.proofs.found.Search.look_forward.Given as goal

abbrev pub decreases-loop-rest : goal.decreases-loop-rest
decreases-loop-rest g l = length l.rest
