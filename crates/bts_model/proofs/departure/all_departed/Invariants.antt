use Rattle.std.proofs.Common.{◌≡◌, ◌++◌, map, drop}
use Rattle.bts_model.specs.Answers.{out_of}
use Rattle.bts_model.specs.Departures.{all_departed}
use Rattle.bts_model.proofs.departure.all_departed.Given as goal

-- what was sent so far, and what the answers that are left give
abbrev pub invariant-loop-answer : goal.invariant-loop-answer
invariant-loop-answer g l =
    l.outs.items ++ map out_of (all_departed l.next l.place (drop l.answer-index l.answers)) ≡ map out_of (all_departed l.fn.impairment l.place l.answers)
