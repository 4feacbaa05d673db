use Rattle.std.proofs.Common.{length}
use Rattle.lab_runs.specs.Course.{Follows}
use Rattle.tested_scripts.specs.Heard.{HasHeard}
use Rattle.tested_scripts.proofs.heard.follow_all.Given as goal

-- the lines so far were followed, and what came before each was heard
abbrev pub invariant-loop-item : goal.invariant-loop-item
invariant-loop-item g l = record {
  can_next : (goal.iterator-loop-item g).can_next l.item-iterator;
  is_finite : (goal.iterator-loop-item g).is_finite l.item-iterator;
  went : Follows l.yielded l.fn.course l.course;
  heard : HasHeard g.L.PartListener.Hears l.fn.listener (length l.yielded) l.listener;
}
