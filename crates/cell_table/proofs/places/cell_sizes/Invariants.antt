use Rattle.std.proofs.Common.{◌≡◌, ◌≤◌, ◌*◌, sum_by, take}
use Rattle.cell_table.specs.Searches.{cell_size}
use Rattle.cell_table.proofs.places.cell_sizes.Given as goal

abbrev pub invariant-loop-each : goal.invariant-loop-each
invariant-loop-each l = record { sum : l.sum ≡ sum_by cell_size (take l.each-index l.cells); most : l.sum ≤ 108 * l.each-index }
