use Rattle.std.proofs.Common.{◌+◌, ◌<◌, ◌%◌, ◌^◌, sym, ◌∙◌, ap, bit_xor, fold, drop, arith}
use Rattle.std.proofs.Math.Nat.{mod-eq_of_lt}
use Rattle.std.proofs.lemmas.Nat.{xor_of_32}
use Rattle.std.proofs.lemmas.List.{at_drop_more, at_drop_all}
use Rattle.journal_records.specs.Checksum.{after_octet, all_ones, checksum}
use Rattle.journal_records.proofs.crc.checksum.Goals as goal

pub loop-octet-preserved : goal.loop-octet-preserved
loop-octet-preserved c =
    let more = at_drop_more (fold after_octet c.loop-octet.register) c.args.octets.now c.loop-octet.octet-index 0 c.loop-octet-test.true in
    ap (λ r. fold after_octet r (drop (c.loop-octet.octet-index + 1) c.args.octets.now)) c.after_octet-register.ensures ∙ sym more ∙ c.loop-octet.invariant

pub returns : goal.returns
unfolding checksum
returns c =
    let none = at_drop_all (fold after_octet c.loop-octet.register) c.args.octets.now c.loop-octet.octet-index c.loop-octet-test.false in
    let fits : bit_xor c.loop-octet.register all_ones < 2 ^ 32 = xor_of_32 c.loop-octet.register all_ones (omega (arith, c.loop-octet.auto.register-fits)) (omega arith) in
    sym (mod-eq_of_lt fits) ∙ ap (λ r. bit_xor r all_ones % 2 ^ 32) (sym none ∙ c.loop-octet.invariant)
