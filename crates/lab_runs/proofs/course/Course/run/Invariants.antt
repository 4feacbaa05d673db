use Rattle.lab_runs.specs.Course.{Follows}
use Rattle.lab_runs.proofs.course.Course.run.Given as goal

-- the lines so far were followed
abbrev pub invariant-loop-item : goal.invariant-loop-item
invariant-loop-item g l = record {
  can_next : (goal.iterator-loop-item g).can_next l.item-iterator;
  is_finite : (goal.iterator-loop-item g).is_finite l.item-iterator;
  followed : Follows l.yielded l.fn.self l.self;
}
