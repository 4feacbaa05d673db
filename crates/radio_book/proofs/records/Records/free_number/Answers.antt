use Rattle.std.proofs.Common.{arith}
use Rattle.radio_book.proofs.Numbers.{not_all_used}
use Rattle.radio_book.proofs.records.Records.free_number.Goals as goal

pub unreachable-requires : goal.unreachable-requires
unreachable-requires g c =
    not_all_used c.args.self.now c.requires c.cells-cells.ensures.traffic c.args.cell (λ n h.
    c.loop-number.invariant n (omega (arith, h, c.loop-number-test.false)))
