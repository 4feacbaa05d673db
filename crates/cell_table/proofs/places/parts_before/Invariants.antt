use Rattle.std.proofs.Common.{◌≡◌, ◌≤◌, take}
use Rattle.cell_table.specs.Searches.{parts_before}
use Rattle.cell_table.proofs.places.parts_before.Given as goal

abbrev pub invariant-loop-tn : goal.invariant-loop-tn
invariant-loop-tn l = record { count : l.count ≡ parts_before l.fn.sub l.fn.number (take l.tn-index l.slots); most : l.count ≤ l.tn-index }
