use Rattle.std.proofs.Common.{◌≡◌, map}
use Rattle.lab_runs.specs.Course.{Went, has_simulators}
use Rattle.lab_runs.proofs.course.Course.handle_all.Given as goal

-- the inputs so far were handled
abbrev pub invariant-loop-input : goal.invariant-loop-input
invariant-loop-input g l = record {
  can_next : (goal.iterator-loop-input g).can_next l.input-iterator;
  is_finite : (goal.iterator-loop-input g).is_finite l.input-iterator;
  went : Went (map (λ input. (l.fn.side, input)) l.yielded) l.fn.self l.self;
  sim : has_simulators l.self ≡ has_simulators l.fn.self;
}
