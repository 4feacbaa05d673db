use Rattle.std.proofs.Common.{rules}
use Rattle.msc_model.specs.Cells.{cell_of}
use Rattle.octet_elements.proofs.Numbered.{filter_map_next}
use Rattle.msc_model.proofs.cell.push_site.Goals as goal

pub loop-cell-preserved : goal.loop-cell-preserved
loop-cell-preserved g c = rw (← filter_map_next c.args.cells.now.items (cell_of c.args.controller c.args.site.now) c.loop-cell.cell) (search rules)
