use Rattle.std.proofs.Common.{ℕ, ◌<◌}
use Rattle.site_text.specs.Cells.{IsNeighbour}
use Rattle.site_text.proofs.cells.has_neighbours.Given as goal

abbrev pub invariant-loop-other : goal.invariant-loop-other
invariant-loop-other g l = (other : ℕ) → other < l.other → IsNeighbour l.site l.cell other → ⊥
