use Rattle.std.proofs.Common.{◌≡◌}
use Rattle.bench_cases.proofs.reports.fill.Given as goal

abbrev pub invariant-loop-iteration : goal.invariant-loop-iteration
invariant-loop-iteration l = l.window.width ≡ l.fn.window.width
