use Rattle.std.proofs.Common.{◌≡◌, ◌++◌, length}
use Rattle.std.specs.Option.{option_map}
use Rattle.bssmap_messages.specs.Values.{cells_after}
use Rattle.bssmap_messages.proofs.cells.read_cells.Given as goal

-- all cells are those that were read, and then those of the rest
abbrev pub invariant-loop-cell : goal.invariant-loop-cell
invariant-loop-cell g l = cells_after l.discriminator l.octets ≡ option_map (λ more. l.cells.items ++ more) (cells_after l.discriminator l.rest)

abbrev pub decreases-loop-cell : goal.decreases-loop-cell
decreases-loop-cell g l = length l.rest
