use Rattle.std.proofs.Common.{◌≡◌, ◌++◌, filter_map}
use Rattle.std.specs.List.{range_with_len}
use Rattle.bts_model.specs.Trxs.{trx_of}
use Rattle.bts_model.proofs.trx.push_cell.Given as goal

-- the TRX so far
abbrev pub invariant-loop-trx : goal.invariant-loop-trx
invariant-loop-trx g l = l.trxs.items ≡ l.fn.trxs.items ++ filter_map (trx_of l.controller l.site l.cell) (range_with_len 0 l.trx)
