use Rattle.std.proofs.Common.{◌≡◌, ◌∙◌, ◌+◌, ◌-◌, ◌*◌, ◌≤◌, ◌++◌, length, flat_map, ap, subst, refl, arith}
use Rattle.octet_elements.specs.Bits.{bits, bits_written, octets_of}
use Rattle.octet_elements.specs.Writing.{Appends}
use Rattle.rr_elements.specs.MeasResults.{head_widths, head_numbers, ncell_widths, ncell_numbers}
use Rattle.rr_elements.proofs.KeptLemmas.{used_count_le}
use Rattle.rr_elements.proofs.ResultsLemmas.{bits_written-results}
use Rattle.rr_elements.proofs.ResultsTexts.{results-text}
use Rattle.rr_elements.proofs.results.MeasResults.encode_into.Goals as goal

pub returns-clause-written : goal.returns-clause-written
returns-clause-written g c =
    let v = c.args.self.now in
    let n = length c.put_ncells.new.bits in
    let used : length c.neighbours.result.now ≡ length v.neighbours = ap length c.neighbours.ensures.value in
    let empty : length c.new-bits.result ≡ 0 = ap length c.new-bits.ensures in
    let long : n ≡ 26 + 17 * length v.neighbours = omega (arith, c.put_ncells.ensures.len, c.put_head.ensures.len) in
    let few : length v.neighbours ≤ 6 = rw (← c.self.view_is) (omega (arith, c.self.invariant.fits.count, used_count_le c.self.inside.head.count c.self.invariant.fits.head.count)) in
    let put : c.put_ncells.new.bits ≡ bits_written head_widths (head_numbers v.head) ++ flat_map (λ n. bits_written ncell_widths (ncell_numbers n)) v.neighbours =
    rw (c.put_ncells.ensures.bits, c.put_head.ensures.bits, c.new-bits.ensures, c.neighbours.ensures.value, ← c.self.view_is) refl in
    let whole = c.pad_to.ensures.bits ∙ ap (λ bs. bs ++ bits (128 - n) 0) put ∙ bits_written-results v n few long in
    subst (λ bs. Appends (octets_of bs) c.args.out.now c.append_to.new.out c.append_to.result) whole c.append_to.ensures.written

pub returns-clause-text : goal.returns-clause-text
returns-clause-text g c = rw (← c.self.view_is) (results-text _ c.self.invariant.fits)

pub returns-clause-count : goal.returns-clause-count
returns-clause-count g c = rw (← c.self.view_is) (omega (arith, (results-text _ c.self.invariant.fits).fields.len))
