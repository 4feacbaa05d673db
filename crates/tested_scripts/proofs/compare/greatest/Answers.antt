use Rattle.std.proofs.Common.{arith}
use Rattle.tested_scripts.proofs.MeetingLemmas.{greatest_one, greatest_all}
use Rattle.tested_scripts.proofs.compare.greatest.Goals as goal

pub loop-place-preserved : goal.loop-place-preserved
loop-place-preserved c = record {
  one = greatest_one _ _ _ _ (omega arith) c.loop-place.invariant.one c.max-greatest.ensures;
  greatest = greatest_all _ _ _ _ (omega arith) c.loop-place.invariant.greatest c.max-greatest.ensures;
}

pub returns-clause-greatest : goal.returns-clause-greatest
returns-clause-greatest c = (c.loop-place.invariant.one, λ k d h. c.loop-place.invariant.greatest k d (omega arith))
