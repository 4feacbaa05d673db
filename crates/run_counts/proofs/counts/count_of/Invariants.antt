use Rattle.std.proofs.Common.{◌≡◌, ◌<◌, ◌^◌, take}
use Rattle.run_counts.specs.Counts as said
use Rattle.run_counts.proofs.counts.count_of.Given as goal

abbrev pub invariant-loop-row : goal.invariant-loop-row
invariant-loop-row l = said.counted_by (said.is_report l.fn.report) l.fn.rows < 2 ^ 64 → l.count ≡ said.counted_by (said.is_report l.fn.report) (take l.row-index l.fn.rows)
