use Rattle.std.proofs.Common.{◌%◌, arith}
use Rattle.std.proofs.lemmas.Bool.Decides.{nat_tests}
use Rattle.bssmap_messages.specs.Values.{cells_with_network, cells_with_area, cells_alone}
use Rattle.bssmap_messages.proofs.ReadCells.{size_0, size_1, size_2, with_network, with_area, alone, leads_network, none_read, none_by_form}
use Rattle.bssmap_messages.proofs.cells.leading_cell.Goals as goal
use Rattle.bssmap_messages.proofs.cells.leading_cell.Goals.{in_default-via-in-0+then-octets-lt7, in_default-via-in-1+then-this-lt4, in_default-via-in-2+then-this-lt2, in_default-via-in_default}

pub returns-in-0-len7-up-clause-found : goal.returns-in-0-len7-up-clause-found
returns-in-0-len7-up-clause-found c = leads_network c.args.discriminator c.args.octets.now _ c.in-0-len7-up.is-0 (omega (arith, c.in-0-len7-up.len_at_least)) c.area_and_cell.ensures

pub returns-in_default-clause-none : goal.returns-in_default-clause-none
returns-in_default-clause-none c =
    let d = c.args.discriminator in
    let v = c.args.octets.now in
    elim c.in_default.branch [ in_default-via-in-0+then-octets-lt7 w ↦ none_read cells_with_network d 7 v (with_network (d % 16) v (omega arith)) size_0 (grind (arith, nat_tests)) | in_default-via-in-1+then-this-lt4 w ↦ none_read cells_with_area d 4 v (with_area (d % 16) v (omega arith)) size_1 (grind (arith, nat_tests)) | in_default-via-in-2+then-this-lt2 w ↦ none_read cells_alone d 2 v (alone (d % 16) v (omega arith)) size_2 (grind (arith, nat_tests)) | in_default-via-in_default w ↦ let h = w.in_default in none_by_form d v (omega arith) ]
