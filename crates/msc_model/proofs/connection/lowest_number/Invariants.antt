use Rattle.std.proofs.Common.{◌≡◌, ◌<◌, ◌≤◌, ℕ, true}
use Rattle.msc_model.specs.Joins.{first_number, is_used}
use Rattle.msc_model.proofs.connection.lowest_number.Given as goal

-- the numbers so far are used
abbrev pub invariant-loop-number : goal.invariant-loop-number
invariant-loop-number l = (m : ℕ) → first_number ≤ m → m < l.number → is_used l.stood l.controller m ≡ true
