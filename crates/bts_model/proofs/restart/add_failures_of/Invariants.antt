use Rattle.std.proofs.Common.{◌≡◌, ◌++◌, map, flat_map}
use Rattle.std.specs.List.{range_with_len}
use Rattle.bts_model.specs.Answers.{out_of}
use Rattle.bts_model.specs.Restarts.{failures_on}
use Rattle.bts_model.proofs.restart.add_failures_of.Given as goal

-- the timeslots so far
abbrev pub invariant-loop-tn : goal.invariant-loop-tn
invariant-loop-tn g l = l.outs.items ≡ l.fn.outs.items ++ map out_of (flat_map (failures_on l.slots l.trx) (range_with_len 0 l.tn))
