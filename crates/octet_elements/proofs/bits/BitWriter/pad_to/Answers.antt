use Rattle.std.proofs.Common.{◌≡◌, ◌∙◌, ◌-◌, sym, ap, length, arith}
use Rattle.octet_elements.proofs.BitLemmas.{length-bits, pad_below, bits-pad}
use Rattle.octet_elements.proofs.bits.BitWriter.pad_to.Goals as goal

pub overflow_sub-self : goal.overflow_sub-self
overflow_sub-self c =
    let s = c.self.inside in
    let len : length c.args.self.now ≡ s.len = sym (ap length c.self.view_is) ∙ length-bits s.len s.number in
    omega (arith, c.requires.room)

pub overflow_shl-self : goal.overflow_shl-self
overflow_shl-self c =
    let s = c.self.inside in
    let len : length c.args.self.now ≡ s.len = sym (ap length c.self.view_is) ∙ length-bits s.len s.number in
    omega (arith, c.requires.some, c.requires.room)

pub invariant_of-self : goal.invariant_of-self
invariant_of-self c =
    let s = c.self.inside in
    let len : length c.args.self.now ≡ s.len = sym (ap length c.self.view_is) ∙ length-bits s.len s.number in
    (c.requires.room.1, pad_below s.number s.len (c.args.len - s.len) c.args.len (omega (arith, c.requires.room)) c.self.invariant.1 c.requires.room.1)

pub returns-clause-bits : goal.returns-clause-bits
returns-clause-bits c =
    let s = c.self.inside in
    let len : length c.args.self.now ≡ s.len = sym (ap length c.self.view_is) ∙ length-bits s.len s.number in
    rw (len, ← c.self.view_is) (bits-pad s.number s.len (c.args.len - s.len) c.args.len (omega (arith, c.requires.room)) c.self.invariant.1 c.requires.room.1)

pub returns-clause-len : goal.returns-clause-len
returns-clause-len c = length-bits c.args.len _
