use Rattle.std.proofs.Common.{arith}
use Rattle.tested_scripts.proofs.MeetingLemmas.{least_one, least_all}
use Rattle.tested_scripts.proofs.compare.least.Goals as goal

pub loop-place-preserved : goal.loop-place-preserved
loop-place-preserved c = record {
  one = least_one _ _ _ _ (omega arith) c.loop-place.invariant.one c.min-least.ensures;
  least = least_all _ _ _ _ (omega arith) c.loop-place.invariant.least c.min-least.ensures;
}

pub returns-clause-least : goal.returns-clause-least
returns-clause-least c = (c.loop-place.invariant.one, λ k d h. c.loop-place.invariant.least k d (omega arith))
