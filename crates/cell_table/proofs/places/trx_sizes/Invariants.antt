use Rattle.std.proofs.Common.{◌≡◌, ◌≤◌, ◌*◌, sum_by, take}
use Rattle.cell_table.specs.Searches.{trx_size}
use Rattle.cell_table.proofs.places.trx_sizes.Given as goal

abbrev pub invariant-loop-each : goal.invariant-loop-each
invariant-loop-each l = record { sum : l.sum ≡ sum_by trx_size (take l.each-index l.trx); most : l.sum ≤ 27 * l.each-index }
