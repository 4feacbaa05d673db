-- How measurement results are kept: six places, the unused ones 0.
use Rattle.std.proofs.Common.{◌≡◌, ◌∙◌, ℕ, ◌+◌, ◌-◌, ◌<◌, ◌≤◌, List, ◌++◌, length, take, drop, replicate, ap, arith, All}
use Rattle.std.proofs.lemmas.Bool.Decides.{nat_tests}
use Rattle.std.proofs.lemmas.List.{take_at, drop_at, drop-replicate, length-append, length-replicate}
use Rattle.rr_elements.specs.declared.measurement.MeasHead.{MeasHead}
use Rattle.rr_elements.specs.declared.measurement.Ncell.{Ncell}
use Rattle.rr_elements.specs.MeasResults.{HeadFits, NcellFits, IsKept, used_count, no_ncell}

pub used_count_le : (count : ℕ) → count < 8 → used_count count ≤ 6
used_count_le count h = grind (arith, nat_tests)

pub no_ncell_fits : NcellFits no_ncell
no_ncell_fits = record { level = omega arith; position = omega arith; bsic = omega arith }

-- neighbours that are put into empty places
pub kept_new : (head : MeasHead) (cells : List Ncell) → HeadFits head → All NcellFits cells → length cells ≡ used_count head.count → IsKept head (cells ++ drop (length cells) (replicate 6 no_ncell))
kept_new head cells fits each count =
    let few = used_count_le head.count fits.count in
    let rest : drop (length cells) (replicate 6 no_ncell) ≡ replicate (6 - length cells) no_ncell = drop-replicate (length cells) 6 no_ncell in
    let front : take (used_count head.count) (cells ++ drop (length cells) (replicate 6 no_ncell)) ≡ cells = take_at cells _ (used_count head.count) count in
    record {
      fits = rw front (record { head = fits; each = each; count = count });
      six = length-append cells _ ∙ ap (λ k. length cells + k) (ap length rest ∙ length-replicate (6 - length cells) no_ncell) ∙ omega arith;
      others = drop_at cells _ (used_count head.count) count ∙ rest ∙ ap (λ k. replicate (6 - k) no_ncell) count;
    }
