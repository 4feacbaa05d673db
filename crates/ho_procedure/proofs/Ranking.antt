-- The candidates that reports make of the cells.
use Rattle.std.proofs.Common.{◌≡◌, ◌↔◌, ◌≤◌, ℕ, List, [], AllPairs, Contains, length, Result, Ok, Err, IfOk, OnErr, refl, ◌∙◌, ap, subst, arith}
use Rattle.cell_table.specs.Site.{SiteView}
use Rattle.rr_elements.specs.MeasResults.{Results}
use Rattle.measurements.specs.Reports.{Reports}
use Rattle.ho_candidates.specs.declared.listed.Candidate.{Candidate}
use Rattle.ho_candidates.specs.Candidates.{IsCandidate, SomeCandidate}
use Rattle.ho_candidates.specs.Order.{StandsBefore}
use Rattle.ho_procedure.specs.Plan.{AreCandidates}

pub are_candidates : (site : SiteView) (w : Reports) (reports : List Results) (serving : ℕ) (found : List Candidate)
    → w.width ≡ site.handover.window → w.reports ≡ reports → ((c : Candidate) → Contains found c ↔ IsCandidate w site serving c) → AllPairs StandsBefore found
    → AreCandidates site reports serving found
are_candidates site w reports serving found wide same members order =
    let parts : w ≡ record { reports = w.reports; width = w.width } = refl in
    let is : w ≡ record { reports = reports; width = site.handover.window } =
    parts ∙ ap (λ n. record { reports = w.reports; width = n }) wide ∙ ap (λ rs. record { reports = rs; width = site.handover.window }) same in
    record { members = λ c. subst (λ v. Contains found c ↔ IsCandidate v site serving c) is (members c); order = order }

-- without reports there is none
pub no_candidates : (site : SiteView) (reports : List Results) (serving : ℕ) → reports ≡ [] → 1 ≤ site.handover.window → AreCandidates site reports serving []
no_candidates site reports serving none some = record { members = λ c. (λ h. absurd (nothing c h), λ k. absurd (empty c k)); order = λ i j d lt within. absurd (omega arith) }
  where
    nothing : (c : Candidate) → ¬ Contains [] c
    nothing c (k, lt, e) = absurd (omega arith)

    empty : (c : Candidate) → ¬ IsCandidate (record { reports = reports; width = site.handover.window }) site serving c
    empty c k = let full : length reports ≡ site.handover.window = k.full in let zero : length reports ≡ 0 = ap length none in omega arith

pub all_candidates : {V E : Type 0} (items : V → List Candidate) (site : SiteView) (w : Reports) (serving : ℕ) (result : Result V E) → w.width ≡ site.handover.window
    → IfOk result (λ found. (c : Candidate) → Contains (items found) c ↔ IsCandidate w site serving c) → IfOk result (λ found. AllPairs StandsBefore (items found))
    → IfOk result (λ found. AreCandidates site w.reports serving (items found))
all_candidates items site w serving (Ok found) wide members order = are_candidates site w w.reports serving (items found) wide refl members order
all_candidates items site w serving (Err f) wide members order = tt

-- where memory was refused there is some
pub some_of : {V E : Type 0} (site : SiteView) (w : Reports) (serving : ℕ) (result : Result V E) → w.width ≡ site.handover.window → OnErr result (SomeCandidate w site serving)
    → OnErr result (SomeCandidate (record { reports = w.reports; width = site.handover.window }) site serving)
some_of site w serving (Ok found) wide some = tt
some_of site w serving (Err f) wide some = subst (λ n. SomeCandidate (record { reports = w.reports; width = n }) site serving) wide some
