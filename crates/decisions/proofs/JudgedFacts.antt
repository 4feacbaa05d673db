-- A sum that lacks nothing is a candidate's.
use Rattle.std.proofs.Common.{◌≡◌, ◌≢◌, ◌↔◌, ◌+◌, ◌*◌, ℕ, length, refl, subst, arith}
use Rattle.cell_table.specs.Views.{SiteView}
use Rattle.cell_table.specs.Neighbours.{IsNamedCell}
use Rattle.measurements.specs.Reports.{Reports, sum_used, sum_named}
use Rattle.ho_candidates.specs.Candidates.{IsCandidate}
use Rattle.decisions.specs.declared.judged.Lack.{Lack}
use Rattle.decisions.specs.declared.judged.Lack.TheVariants.{Nothing, Margin, Minimum, Both}
use Rattle.decisions.specs.Judged.{IsLack, asked_by}

pub candidate_lacks_nothing : (w : Reports) (site : SiteView) (serving cell place bsic sum : ℕ) (lack : Lack)
    → IsNamedCell site serving place bsic cell → sum ≡ sum_named place bsic w.reports → IsLack (asked_by w site) sum lack
    → cell ≢ serving → length w.reports ≡ site.handover.window
    → (lack ≡ Nothing) ↔ IsCandidate w site serving (record { cell = cell; sum = sum })
candidate_lacks_nothing w site serving cell place bsic sum lack name is_sum lacks other full = (there, back lack lacks)
  where
    margin_full : sum_used w.reports + site.handover.margin * length w.reports ≡ sum_used w.reports + site.handover.margin * site.handover.window
    margin_full = rw (full) refl

    minimum_full : site.handover.minimum * length w.reports ≡ site.handover.minimum * site.handover.window
    minimum_full = rw (full) refl

    there : lack ≡ Nothing → IsCandidate w site serving (record { cell = cell; sum = sum })
    there e =
        let enough : IsLack (asked_by w site) sum Nothing = subst (IsLack (asked_by w site) sum) e lacks in
        let margin = enough.0 in
        let minimum = enough.1 in
        record {
          place = place;
          bsic = bsic;
          full = full;
          other = other;
          name = name;
          sum = is_sum;
          margin = omega (arith, margin_full);
          minimum = omega (arith, minimum_full);
        }

    back : (l : Lack) → IsLack (asked_by w site) sum l → IsCandidate w site serving (record { cell = cell; sum = sum }) → l ≡ Nothing
    back Nothing less is = refl
    back Margin less is = let margin = is.margin in let short = less.0 in absurd (omega (arith, margin_full))
    back Minimum less is = let minimum = is.minimum in let short = less.1 in absurd (omega (arith, minimum_full))
    back Both less is = let margin = is.margin in let short = less.0 in absurd (omega (arith, margin_full))
