use Rattle.std.proofs.Common.{◌≡◌, []}
use Rattle.lab_runs.specs.Course.{Went, has_simulators}
use Rattle.lab_runs.proofs.course.Course.settle.Given as goal

-- no input of a script was handled
abbrev pub invariant-loop : goal.invariant-loop
invariant-loop g l = record {
  went : Went [] l.fn.self l.self;
  sim : has_simulators l.self ≡ has_simulators l.fn.self;
}
