use Rattle.cell_table.specs.SiteFile.{identity_of}
use Rattle.cell_table.proofs.Each.{IsReading}
use Rattle.cell_table.proofs.reading.each_outside.Given as goal

abbrev pub invariant-loop-entry : goal.invariant-loop-entry
invariant-loop-entry l = IsReading (λ place. identity_of) l.entries l.entry-index l.cells.items
