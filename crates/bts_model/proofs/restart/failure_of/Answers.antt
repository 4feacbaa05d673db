use Rattle.std.proofs.Common.{arith}
use Rattle.rsl_messages.proofs.Written.{canonical_of}
use Rattle.bts_model.proofs.restart.failure_of.Goals as goal

pub returns-clause-canonical : goal.returns-clause-canonical
returns-clause-canonical g c = canonical_of _ c.requires (omega arith)
