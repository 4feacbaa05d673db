use Rattle.std.proofs.Common.{◌≤◌, ◌-◌, max, All, vec_len}
use Rattle.ho_procedure.specs.Owed.{IsSpare}
use Rattle.ho_procedure.proofs.buffers.fill.Given as goal

-- each buffer is a spare one, none was lost, and no more are made than are wanted
abbrev pub invariant-loop-alloc : goal.invariant-loop-alloc
invariant-loop-alloc g l = All IsSpare l.spare.items × (vec_len l.fn.spare ≤ vec_len l.spare) × (vec_len l.spare ≤ max (vec_len l.fn.spare) l.count)

abbrev pub decreases-loop-alloc : goal.decreases-loop-alloc
decreases-loop-alloc g l = l.count - vec_len l.spare
