use Rattle.cell_table.specs.Kept.{kept_cell}
use Rattle.cell_table.proofs.Each.{IsReading}
use Rattle.cell_table.proofs.reading.each_cell.Given as goal

abbrev pub invariant-loop-entry : goal.invariant-loop-entry
invariant-loop-entry l = IsReading (λ place. kept_cell) l.entries l.entry-index l.cells.items
