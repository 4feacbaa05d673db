use Rattle.std.proofs.Common.{sym, ◌∙◌, arith, ◌≡◌, ◌%◌, false}
use Rattle.std.specs.Option.{is_some}
use Rattle.bssmap_messages.specs.Values.{cells_with_network, cells_with_area, cells_alone, cells_after}
use Rattle.bssmap_messages.proofs.ReadCells.{size_0, size_1, size_2, with_network, with_area, alone, are_whole, no_cells}
use Rattle.bssmap_messages.proofs.cells.are_cells.Goals as goal

pub returns-in-0 : goal.returns-in-0
returns-in-0 c =
    let d = c.args.discriminator in
    let v = c.args.octets.now in
    let whole = are_whole cells_with_network d 7 v (with_network (d % 16) v c.in-0.is) size_0 in
    (λ h. whole ∙ h, λ h. sym whole ∙ h)

pub returns-in-1 : goal.returns-in-1
returns-in-1 c =
    let d = c.args.discriminator in
    let v = c.args.octets.now in
    let whole = are_whole cells_with_area d 4 v (with_area (d % 16) v c.in-1.is) size_1 in
    (λ h. whole ∙ h, λ h. sym whole ∙ h)

pub returns-in-2 : goal.returns-in-2
returns-in-2 c =
    let d = c.args.discriminator in
    let v = c.args.octets.now in
    let whole = are_whole cells_alone d 2 v (alone (d % 16) v c.in-2.is) size_2 in
    (λ h. whole ∙ h, λ h. sym whole ∙ h)

pub returns-in_default : goal.returns-in_default
returns-in_default c =
    let h = c.in_default in
    let none : is_some (cells_after c.args.discriminator c.args.octets.now) ≡ false = no_cells c.args.discriminator c.args.octets.now (omega arith) (omega arith) in
    (λ h. absurd cc, λ h. sym none ∙ h)
