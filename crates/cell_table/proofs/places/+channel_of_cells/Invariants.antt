use Rattle.std.proofs.Common.{length}
use Rattle.cell_table.proofs.places.+channel_of_cells.Given as goal

abbrev pub decreases-channel_of_cells : goal.decreases-channel_of_cells
decreases-channel_of_cells l = length l.cells.now
