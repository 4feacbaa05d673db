use Rattle.cell_table.specs.SiteFile.{number_of}
use Rattle.cell_table.specs.Ranges.{allowed}
use Rattle.cell_table.specs.declared.fault.Key.TheVariants as key
use Rattle.cell_table.proofs.Each.{IsReading}
use Rattle.cell_table.proofs.reading.carriers_of.Given as goal

abbrev pub invariant-loop-entry : goal.invariant-loop-entry
invariant-loop-entry l = IsReading (λ place. number_of key.Ba (allowed key.Ba)) l.entries l.entry-index l.carriers.items
