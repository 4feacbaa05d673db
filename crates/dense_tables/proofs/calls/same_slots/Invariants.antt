use Rattle.std.proofs.Common.{◌<◌, ℕ, get_or, None}
use Rattle.dense_tables.specs.Calls.{AgreesAt}
use Rattle.dense_tables.proofs.calls.same_slots.Given as goal

-- of the call of each slot so far both keep one thing
abbrev pub invariant-loop-key : goal.invariant-loop-key
invariant-loop-key g l = (j : ℕ) → j < l.key → AgreesAt l.one l.other (get_or l.slots.slots j None)
