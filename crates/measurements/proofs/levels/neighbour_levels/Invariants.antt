use Rattle.std.proofs.Common.{◌≡◌, ◌*◌, ◌≤◌, take}
use Rattle.measurements.specs.Reports.{sum_named}
use Rattle.measurements.proofs.levels.neighbour_levels.Given as goal

abbrev pub invariant-loop-report : goal.invariant-loop-report
invariant-loop-report l = (l.sum ≡ sum_named l.position l.bsic (take l.report-index l.reports)) × (l.sum ≤ 63 * l.report-index)
