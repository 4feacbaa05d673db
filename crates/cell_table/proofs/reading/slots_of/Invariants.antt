use Rattle.cell_table.specs.SiteFile.{number_of}
use Rattle.cell_table.specs.declared.fault.Key.TheVariants as key
use Rattle.cell_table.proofs.Each.{IsReadingNine}
use Rattle.cell_table.proofs.reading.slots_of.Given as goal

abbrev pub invariant-loop-entry : goal.invariant-loop-entry
invariant-loop-entry l = IsReadingNine (λ place. number_of key.Tch l.fn.range) l.entries l.entry-index l.slots.items
