-- What is written of measurement results is a text of them.
use Rattle.std.proofs.Common.{◌≡◌, ◌∙◌, ◌+◌, ◌-◌, List, [], ◌∷◌, ◌++◌, length, replicate, flat_map, refl, ap, arith, All, not}
use Rattle.std.proofs.lemmas.List.{length-replicate, length-append}
use Rattle.std.proofs.lemmas.List.Elements.{All-append, All-replicate, All-head, All-tail}
use Rattle.rr_elements.specs.declared.measurement.Ncell.{Ncell}
use Rattle.octet_elements.specs.Bits.{repeated_widths}
use Rattle.rr_elements.specs.MeasResults.{Results, ResultsFit, NcellFits, IsResultsText, head_widths, head_numbers, ncell_widths, ncell_numbers, results_widths, results_numbers, results_text, no_ncell}
use Rattle.octet_elements.proofs.FieldLemmas.{flag_below, FieldsFit, fit-append, AreFields-field_octets}
use Rattle.rr_elements.proofs.KeptLemmas.{used_count_le, no_ncell_fits}

cells_fit : (cells : List Ncell) → All NcellFits cells → FieldsFit (repeated_widths (length cells) ncell_widths) (flat_map ncell_numbers cells)
cells_fit [] each = tt
cells_fit (c ∷ cs) each =
    let here = All-head NcellFits c cs each in
    (here.level, (here.position, (here.bsic, cells_fit cs (All-tail NcellFits c cs each))))

pub results-text : (v : Results) → ResultsFit v → IsResultsText v (results_text v)
results-text v fits =
    let few = used_count_le v.head.count fits.head.count in
    let others = replicate (6 - length v.neighbours) no_ncell in
    let cells = v.neighbours ++ others in
    let six : length v.neighbours + length others ≡ 6 = ap (λ k. length v.neighbours + k) (length-replicate (6 - length v.neighbours) no_ncell) ∙ omega (arith, fits.count) in
    let count : length cells ≡ 6 = length-append v.neighbours others ∙ six in
    let each : All NcellFits cells = All-append NcellFits _ _ fits.each (All-replicate NcellFits _ no_ncell no_ncell_fits) in
    let places : FieldsFit (repeated_widths 6 ncell_widths) (flat_map ncell_numbers cells) = rw count at (cells_fit cells each) in
    let h = v.head in
    let head : FieldsFit head_widths (head_numbers h) = (flag_below h.ba, (flag_below h.dtx, (fits.head.full, (flag_below h.ba3g, (flag_below (not h.valid), (fits.head.sub, (flag_below h.si23, (fits.head.qfull, (fits.head.qsub, (fits.head.count, tt)))))))))) in
    record {
      others = others;
      count = fits.count;
      six = six;
      fields = AreFields-field_octets results_widths (results_numbers v others) (fit-append head_widths (repeated_widths 6 ncell_widths) (head_numbers h) (flat_map ncell_numbers cells) head places) refl;
    }
