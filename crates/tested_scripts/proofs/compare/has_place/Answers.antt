use Rattle.std.proofs.Common.{arith, rules}
use Rattle.tested_scripts.proofs.MeetingLemmas.{none_so_far, none_more}
use Rattle.tested_scripts.proofs.compare.has_place.Goals as goal

pub loop-other-preserved : goal.loop-other-preserved
loop-other-preserved c = none_more c.args.places.now c.loop-other.other-index c.args.place (omega arith) c.loop-other.invariant c.if-other-place.false

pub returns : goal.returns
returns c = record {
  has = λ e. absurd (search (rules, e));
  has_not = λ _. none_so_far c.args.places.now c.loop-other.other-index c.args.place c.loop-other.invariant (omega arith);
}
