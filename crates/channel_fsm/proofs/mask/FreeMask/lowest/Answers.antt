use Rattle.std.proofs.Common.{sym, ◌∙◌, ap, w8, arith}
use Rattle.std.specs.Int.{trailing_zeros}
use Rattle.std.proofs.lemmas.Nat.Bits.{bit_at-trailing_zeros}
use Rattle.channel_fsm.specs.Masks.{has}
use Rattle.channel_fsm.proofs.MaskFacts.{has_one, has_zero}
use Rattle.channel_fsm.proofs.mask.FreeMask.lowest.Goals as goal

pub returns-clause-there : goal.returns-clause-there
returns-clause-there c =
    let bits = c.self.inside.bits in
    let place = bit_at-trailing_zeros w8 bits (omega (arith, c.if-self-eq0.false)) (omega arith) in
    sym (ap (λ octet. has octet (trailing_zeros w8 bits)) c.self.view_is) ∙ has_one bits (trailing_zeros w8 bits) place.1

pub returns-clause-lowest : goal.returns-clause-lowest
returns-clause-lowest c n below =
    let bits = c.self.inside.bits in
    let place = bit_at-trailing_zeros w8 bits (omega (arith, c.if-self-eq0.false)) (omega arith) in
    sym (ap (λ octet. has octet n) c.self.view_is) ∙ has_zero bits n (place.2 n below)
