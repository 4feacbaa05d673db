use Rattle.std.proofs.Common.{map}
use Rattle.toml.specs.View.{view}
use Rattle.cell_table.specs.SiteFile.{half_slot}
use Rattle.cell_table.specs.Kept.{names}
use Rattle.cell_table.proofs.Each.{IsReadingNine}
use Rattle.cell_table.proofs.reading.halves_of.Given as goal

abbrev pub invariant-loop-entry : goal.invariant-loop-entry
invariant-loop-entry l = IsReadingNine (λ place. half_slot (names l.fn.range (map view l.slots))) l.entries l.entry-index l.halves.items
