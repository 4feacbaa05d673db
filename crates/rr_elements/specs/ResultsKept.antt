-- A value of measurement results gives its six places back.
use Rattle.std.proofs.Common.{◌≡◌, ◌∙◌, sym, ap, ◌-◌, List, ◌++◌, length, take, replicate}
use Rattle.std.proofs.lemmas.List.{take-append-drop}
use Rattle.rr_elements.specs.declared.measurement.MeasHead.{MeasHead}
use Rattle.rr_elements.specs.declared.measurement.Ncell.{Ncell}
use Rattle.rr_elements.specs.MeasResults.{IsKept, used_count, no_ncell}

-- the places are the neighbours in use and then zeros
pub kept_again : (head : MeasHead) (places : List Ncell) → IsKept head places → take (used_count head.count) places ++ replicate (6 - length (take (used_count head.count) places)) no_ncell ≡ places
kept_again head places kept =
    let n = used_count head.count in
    ap (λ k. take n places ++ replicate (6 - k) no_ncell) kept.fits.count ∙ ap (λ rest. take n places ++ rest) (sym kept.others) ∙ take-append-drop n places
