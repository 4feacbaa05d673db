use Rattle.std.proofs.Common.{◌≡◌, ◌*◌, ◌≤◌, take}
use Rattle.measurements.specs.Reports.{sum_used}
use Rattle.measurements.proofs.levels.serving_levels.Given as goal

abbrev pub invariant-loop-report : goal.invariant-loop-report
invariant-loop-report l = (l.sum ≡ sum_used (take l.report-index l.reports)) × (l.sum ≤ 63 * l.report-index)
