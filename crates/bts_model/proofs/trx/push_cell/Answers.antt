use Rattle.std.proofs.Common.{rules}
use Rattle.bts_model.specs.Trxs.{trx_of}
use Rattle.octet_elements.proofs.Numbered.{filter_map_next}
use Rattle.bts_model.proofs.trx.push_cell.Goals as goal

pub loop-trx-preserved : goal.loop-trx-preserved
loop-trx-preserved g c = rw (← filter_map_next c.args.trxs.now.items (trx_of c.args.controller c.args.site.now c.args.cell) c.loop-trx.trx) (search rules)
