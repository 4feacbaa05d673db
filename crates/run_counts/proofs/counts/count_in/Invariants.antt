use Rattle.std.proofs.Common.{◌≡◌, ◌<◌, ◌^◌, take}
use Rattle.run_counts.specs.Counts as said
use Rattle.run_counts.proofs.counts.count_in.Given as goal

abbrev pub invariant-loop-row : goal.invariant-loop-row
invariant-loop-row l = said.counted_by (said.is_in l.fn.cell l.fn.what) l.fn.rows < 2 ^ 64 → l.count ≡ said.counted_by (said.is_in l.fn.cell l.fn.what) (take l.row-index l.fn.rows)
