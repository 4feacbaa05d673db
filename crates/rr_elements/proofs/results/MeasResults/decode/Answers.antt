use Rattle.std.proofs.Common.{◌≡◌, ◌∙◌, ap, length, flat_map, take, rules}
use Rattle.octet_elements.specs.Bits.{bits_of, cut, after, repeated_widths}
use Rattle.rr_elements.specs.MeasResults.{used_count, head_numbers, head_widths, ncell_numbers, ncell_widths}
use Rattle.rr_elements.proofs.ResultsLemmas.{read-text}
use Rattle.rr_elements.proofs.KeptLemmas.{used_count_le}
use Rattle.rr_elements.proofs.results.MeasResults.decode.Goals as goal

pub returns-clause-text : goal.returns-clause-text
returns-clause-text c =
    let head = c.take_head-head.result in
    let places = c.take_ncells-places.result in
    let octets = c.args.octets.now in
    let all : c.in_ok-bits.bits ≡ bits_of octets = search rules in
    let sixteen : length octets ≡ 16 = search rules in
    let few = used_count_le head.count c.take_head-head.ensures.fits.count in
    let read : head_numbers head ≡ cut head_widths (bits_of octets) = rw all at c.take_head-head.ensures.numbers in
    let rest : c.take_head-head.new.bits ≡ after head_widths (bits_of octets) = c.take_head-head.ensures.rest ∙ ap (after head_widths) all in
    let front : flat_map ncell_numbers (take (used_count head.count) places) ≡ cut (repeated_widths (used_count head.count) ncell_widths) (after head_widths (bits_of octets)) = rw (c.used.ensures, rest) at c.take_ncells-places.ensures.numbers in
    read-text octets head places sixteen c.take_ncells-places.ensures.six few read front
