use Rattle.std.proofs.Common.{◌≢◌, All, take}
use Rattle.bench_cases.proofs.case.find.Given as goal

abbrev pub invariant-loop-case : goal.invariant-loop-case
invariant-loop-case l = All (λ case. case.name.now ≢ l.name) (take l.case-index l.cases)
