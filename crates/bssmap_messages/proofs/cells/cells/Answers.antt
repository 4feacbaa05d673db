use Rattle.std.proofs.Common.{length, take, drop, ◌-◌, ◌<◌, arith}
use Rattle.bssmap_messages.proofs.ReadCells.{some_are_in}
use Rattle.bssmap_messages.proofs.cells.cells.Goals as goal

pub returns-in-Some-len1-up-clause-ok : goal.returns-in-Some-len1-up-clause-ok
returns-in-Some-len1-up-clause-ok c =
    let value = c.in-Some-len1-up in
    let v = value.field-0.now in
    let some : 0 < length (take (length v - 1) (drop 1 v)) = grind (arith, c.is_empty.ensures, c.if-not-is_empty.true) in
    let whole = rw value.is at c.are_cells.ensures.0 c.if-are_cells.true in
    rw value.is (some_are_in v some whole)
