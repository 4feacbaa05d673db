use Rattle.std.proofs.Common.{◌≡◌, ◌∙◌, ◌/◌, sym, ap, length, rules}
use Rattle.octet_elements.specs.Bits.{octets_of}
use Rattle.octet_elements.proofs.BitLemmas.{length-bits, slice-octets_of, length-octets_of}
use Rattle.octet_elements.proofs.bits.BitWriter.append_to.Goals as goal

pub returns : goal.returns
returns g c =
    let s = c.self.inside in
    let e = slice-octets_of c.args.self s.len s.number c.self.view_is c.self.invariant.0 c.requires.whole in
    let count : s.len / 8 ≡ length (octets_of c.args.self) = ap (λ k. k / 8) (sym (length-bits s.len s.number) ∙ ap length c.self.view_is) ∙ sym (length-octets_of c.args.self) in
    let items = rw (c.to_be_bytes-octets.ensures, e) at c.append_octets.ensures.items in
    let len = rw (c.to_be_bytes-octets.ensures, e) at c.append_octets.ensures.len in
    let had_room = rw count at c.make_room.ensures.had_room in
    search rules

pub returns-in_err-make_room : goal.returns-in_err-make_room
returns-in_err-make_room g c =
    let s = c.self.inside in
    let count : s.len / 8 ≡ length (octets_of c.args.self) = ap (λ k. k / 8) (sym (length-bits s.len s.number) ∙ ap length c.self.view_is) ∙ sym (length-octets_of c.args.self) in
    let succeeds = rw count at c.make_room.ensures.succeeds in
    let had_room = rw count at c.make_room.ensures.had_room in
    search rules
