use Rattle.std.proofs.Common.{◌≡◌, ◌++◌, map, drop}
use Rattle.bts_model.specs.Answers.{out_of}
use Rattle.bts_model.specs.Restarts.{failures}
use Rattle.bts_model.proofs.restart.failures.Given as goal

-- what was sent so far, and what the TRX that are left give
abbrev pub invariant-loop-trx : goal.invariant-loop-trx
invariant-loop-trx g l = l.outs.items ++ map out_of (failures (drop l.trx-index l.trxs) l.slots l.restart) ≡ map out_of (failures l.trxs l.slots l.restart)
