use Rattle.std.proofs.Common.{arith}
use Rattle.rsl_messages.proofs.Written.{canonical_of}
use Rattle.bsc_runs.proofs.in_place.refusal.Goals as goal

pub from_station-requires : goal.from_station-requires
from_station-requires g c = canonical_of _ c.requires (omega arith)
