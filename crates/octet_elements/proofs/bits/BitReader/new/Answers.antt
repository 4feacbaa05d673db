use Rattle.std.proofs.Common.{◌≡◌, ◌∙◌, ◌*◌, sym, ap, length, take, arith, rules}
use Rattle.std.proofs.Math.Seq.{take-length}
use Rattle.octet_elements.specs.Bits.{bits_of}
use Rattle.octet_elements.proofs.BitLemmas.{length-bits, take-top}
use Rattle.octet_elements.proofs.bits.BitReader.new.Goals as goal

pub overflow_shl-result : goal.overflow_shl-result
overflow_shl-result c =
    let s = c.bits.inside in
    let len : s.len ≡ length c.loop-octet.bits = sym (length-bits s.len s.number) ∙ ap length c.bits.view_is in
    let index : c.loop-octet.octet-index ≡ length c.args.octets.now = omega arith in
    omega (arith, c.requires.some, c.loop-octet.invariant.1)

pub returns-clause-bits : goal.returns-clause-bits
returns-clause-bits c =
    let s = c.bits.inside in
    let index : c.loop-octet.octet-index ≡ length c.args.octets.now = omega arith in
    take-top s.len s.number c.bits.invariant.0 ∙ c.bits.view_is ∙ c.loop-octet.invariant.0 ∙ ap (λ i. bits_of (take i c.args.octets.now)) index ∙ ap bits_of (take-length c.args.octets.now)

pub returns-clause-len : goal.returns-clause-len
returns-clause-len c =
    let s = c.bits.inside in
    let index : c.loop-octet.octet-index ≡ length c.args.octets.now = omega arith in
    let whole : length c.args.octets.now ≡ c.args.count = search rules in
    ap length (take-top s.len s.number c.bits.invariant.0 ∙ c.bits.view_is) ∙ c.loop-octet.invariant.1 ∙ ap (λ i. 8 * i) (index ∙ whole)
