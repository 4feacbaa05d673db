use Rattle.std.proofs.Common.{rules}
use Rattle.bts_model.specs.Trxs.{trxs_of_cell}
use Rattle.octet_elements.proofs.Numbered.{flat_map_next}
use Rattle.bts_model.proofs.trx.push_site.Goals as goal

pub loop-cell-preserved : goal.loop-cell-preserved
loop-cell-preserved g c = rw (← flat_map_next c.args.trxs.now.items (trxs_of_cell c.args.controller c.args.site.now) c.loop-cell.cell) (search rules)
