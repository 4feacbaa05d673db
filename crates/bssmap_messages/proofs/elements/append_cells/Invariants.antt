use Rattle.std.proofs.Common.{◌≡◌, ◌+◌, ◌*◌, ◌≤◌, ◌++◌, length, take, flat_map, vec_len, vec_capacity}
use Rattle.bssmap_messages.specs.Values.{cell_octets}
use Rattle.bssmap_messages.proofs.elements.append_cells.Given as goal

-- the cells so far are appended, and there is room for those that are left
abbrev pub invariant-loop-cell : goal.invariant-loop-cell
invariant-loop-cell g l = (l.out.items ≡ l.fn.out.items ++ flat_map cell_octets (take l.cell-index l.cells)) × (vec_len l.out + 4 * length l.cells ≤ vec_capacity l.out + 4 * l.cell-index) × (vec_capacity l.out ≡ vec_capacity l.fn.out)
