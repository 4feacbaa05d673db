use Rattle.std.proofs.Common.{◌≡◌, ◌<◌, ℕ, false}
use Rattle.ho_procedure.proofs.CellNames.{is_named}
use Rattle.ho_procedure.proofs.requests.own_cell.Given as goal

-- the cells before have another name
abbrev pub invariant-loop-cell : goal.invariant-loop-cell
invariant-loop-cell g l = (k : ℕ) → k < l.cell → is_named l.id l.site k ≡ false
