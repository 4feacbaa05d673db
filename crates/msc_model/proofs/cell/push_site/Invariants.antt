use Rattle.std.proofs.Common.{◌≡◌, ◌++◌, filter_map}
use Rattle.std.specs.List.{range_with_len}
use Rattle.msc_model.specs.Cells.{cell_of}
use Rattle.msc_model.proofs.cell.push_site.Given as goal

-- the cells so far
abbrev pub invariant-loop-cell : goal.invariant-loop-cell
invariant-loop-cell g l = l.cells.items ≡ l.fn.cells.items ++ filter_map (cell_of l.controller l.site) (range_with_len 0 l.cell)
