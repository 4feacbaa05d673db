use Rattle.std.proofs.Common.{◌≡◌, ◌++◌, replicate}
use Rattle.lab_runs.proofs.asked.add_times.Given as goal

-- so many so far
abbrev pub invariant-loop : goal.invariant-loop
invariant-loop g l = l.inputs.items ≡ l.fn.inputs.items ++ replicate l.counter l.fn.input
