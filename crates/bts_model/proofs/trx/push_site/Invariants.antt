use Rattle.std.proofs.Common.{◌≡◌, ◌++◌, flat_map}
use Rattle.std.specs.List.{range_with_len}
use Rattle.bts_model.specs.Trxs.{trxs_of_cell}
use Rattle.bts_model.proofs.trx.push_site.Given as goal

-- the cells so far
abbrev pub invariant-loop-cell : goal.invariant-loop-cell
invariant-loop-cell g l = l.trxs.items ≡ l.fn.trxs.items ++ flat_map (trxs_of_cell l.controller l.site) (range_with_len 0 l.cell)
