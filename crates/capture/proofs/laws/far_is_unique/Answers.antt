use Rattle.capture.proofs.FarEnds.{far_unique}
use Rattle.capture.proofs.laws.far_is_unique.Goals as goal

pub returns : goal.returns
returns c = record { unique = far_unique }
