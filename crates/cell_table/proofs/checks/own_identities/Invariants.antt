use Rattle.std.proofs.Common.{◌≡◌, map, take}
use Rattle.cell_table.proofs.checks.own_identities.Given as goal

abbrev pub invariant-loop-cell : goal.invariant-loop-cell
invariant-loop-cell l = l.own.items ≡ map (λ c. c.identity) (take l.cell-index l.cells)
