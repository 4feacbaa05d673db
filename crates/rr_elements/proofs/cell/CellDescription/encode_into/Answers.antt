use Rattle.std.proofs.Common.{arith}
use Rattle.rr_elements.proofs.ElementLemmas.{cell-text}
use Rattle.rr_elements.proofs.cell.CellDescription.encode_into.Goals as goal

pub returns-clause-text : goal.returns-clause-text
returns-clause-text g c = rw (← c.self.view_is) (cell-text _ c.self.invariant)

pub returns-clause-count : goal.returns-clause-count
returns-clause-count g c = rw (← c.self.view_is) (omega (arith, (cell-text _ c.self.invariant).len))
