use Rattle.std.proofs.Common.{arith}
use Rattle.std.proofs.lemmas.Bool.Decides.{nat_tests}
use Rattle.bssmap_messages.proofs.ReadCells.{not_lone_in}
use Rattle.bssmap_messages.proofs.cells.cell.Goals as goal

pub returns-in_default : goal.returns-in_default
returns-in_default c =
    let value = c.in-Some-len1-up in
    let some = rw value.is at value.len_at_least in
    let found = rw value.is at c.in-Some.ensures.found in
    rw value.is (not_lone_in c.in-Some.cell value.field-0.now c.in-Some.rest.now some (grind (arith, nat_tests)) found)
