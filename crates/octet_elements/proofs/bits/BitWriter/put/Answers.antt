use Rattle.std.proofs.Common.{◌≡◌, ◌∙◌, ◌+◌, ◌≤◌, sym, ap, length, arith}
use Rattle.octet_elements.proofs.BitLemmas.{length-bits, put_number, put_below, bits-put}
use Rattle.octet_elements.proofs.bits.BitWriter.put.Goals as goal

pub invariant_of-self : goal.invariant_of-self
invariant_of-self c =
    let s = c.self.inside in
    let len : length c.args.self.now ≡ s.len = sym (ap length c.self.view_is) ∙ length-bits s.len s.number in
    let room : s.len + c.args.width ≤ 128 = omega arith in
    let is = put_number s.number s.len c.args.width c.args.value c.self.invariant.1 room c.requires.fits in
    (room, rw (c.from.ensures, is) (put_below s.number s.len c.args.value c.args.width c.self.invariant.1 c.requires.fits))

pub returns-clause-bits : goal.returns-clause-bits
returns-clause-bits c =
    let s = c.self.inside in
    let len : length c.args.self.now ≡ s.len = sym (ap length c.self.view_is) ∙ length-bits s.len s.number in
    let room : s.len + c.args.width ≤ 128 = omega arith in
    let is = put_number s.number s.len c.args.width c.args.value c.self.invariant.1 room c.requires.fits in
    rw (c.from.ensures, is, ← c.self.view_is) (bits-put s.len c.args.width s.number c.args.value c.requires.fits)

pub returns-clause-len : goal.returns-clause-len
returns-clause-len c =
    let s = c.self.inside in
    let len : length c.args.self.now ≡ s.len = sym (ap length c.self.view_is) ∙ length-bits s.len s.number in
    length-bits (s.len + c.args.width) _ ∙ omega arith
