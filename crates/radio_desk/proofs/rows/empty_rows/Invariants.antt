use Rattle.std.proofs.Common.{◌≤◌, ◌-◌, vec_len}
use Rattle.radio_desk.proofs.rows.empty_rows.Given as goal

-- never more than so many
abbrev pub invariant-loop-alloc : goal.invariant-loop-alloc
invariant-loop-alloc g l = vec_len l.rows ≤ l.count

abbrev pub decreases-loop-alloc : goal.decreases-loop-alloc
decreases-loop-alloc g l = l.count - vec_len l.rows
