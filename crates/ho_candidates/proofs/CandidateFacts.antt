-- Which cells are no candidates, and the candidates below a cell.
use Rattle.std.proofs.Common.{◌≡◌, ◌<◌, ◌≤◌, ◌+◌, ◌*◌, ◌-◌, ◌/◌, ◌↔◌, ◌⊎◌, inl, inr, ℕ, true, false, max, nat_lt, if◌then◌else◌, List, [], length, Option, Some, option_map, slice_get, All, AllPairs, Contains, get_or, sym, ◌∙◌, ap, subst, arith}
use Rattle.std.proofs.lemmas.Option.{same_Some, slice_get_within}
use Rattle.std.proofs.lemmas.List.Elements.{Contains-get_or}
use Rattle.cell_table.specs.Limits.{first_outside}
use Rattle.cell_table.specs.Views.{SiteView}
use Rattle.cell_table.specs.declared.tables.CellIdentity.{CellIdentity}
use Rattle.cell_table.specs.Site.{identity_at}
use Rattle.cell_table.proofs.Lookups.{identity_of_part}
use Rattle.cell_table.specs.Neighbours.{IsNamedCell}
use Rattle.measurements.specs.Reports.{Reports, sum_used, sum_named}
use Rattle.ho_candidates.specs.declared.listed.Candidate.{Candidate}
use Rattle.ho_candidates.specs.Order.{StandsBefore, HasOneMore}
use Rattle.ho_candidates.proofs.OrderFacts.{below_or_not}
use Rattle.ho_candidates.specs.Candidates.{IsCandidate, NoCandidateIn, IsOnlyCandidateIn}

-- a cell without a name
pub none-nameless : (w : Reports) (site : SiteView) (serving other : ℕ) → ((place bsic : ℕ) → ¬ IsNamedCell site serving place bsic other) → NoCandidateIn w site serving other
none-nameless w site serving other nameless c e is = nameless is.place is.bsic (subst (λ cell. IsNamedCell site serving is.place is.bsic cell) e is.name)

-- a cell has this name alone
abbrev HasOneName : SiteView → ℕ → ℕ → ℕ → ℕ → Type 0
HasOneName site serving other place bsic = (p b : ℕ) → IsNamedCell site serving p b other → (place ≡ p) × (bsic ≡ b)

-- what a look-up answers is the one name
pub one_name : (site : SiteView) (serving other place bsic : ℕ) → ((p b : ℕ) → IsNamedCell site serving p b other → ◌≡◌ {A = Option (ℕ × ℕ)} (Some (place, bsic)) (Some (p, b))) → HasOneName site serving other place bsic
one_name site serving other place bsic answer p b name =
    let there : ℕ × ℕ = (place, bsic) in
    let found : ℕ × ℕ = (p, b) in
    let same : there ≡ found = same_Some there found (answer p b name) in
    (ap (λ (n : ℕ × ℕ). n.0) same, ap (λ (n : ℕ × ℕ). n.1) same)

-- the sum of a candidate is that by the one name of its cell
sum-by_name : (w : Reports) (site : SiteView) (serving other place bsic : ℕ) → HasOneName site serving other place bsic
    → (c : Candidate) → c.cell ≡ other → IsCandidate w site serving c → c.sum ≡ sum_named place bsic w.reports
sum-by_name w site serving other place bsic one c e is =
    let (same_place, same_bsic) = one is.place is.bsic (subst (λ cell. IsNamedCell site serving is.place is.bsic cell) e is.name) in
    is.sum ∙ ap (λ p. sum_named p is.bsic w.reports) (sym same_place) ∙ ap (λ b. sum_named place b w.reports) (sym same_bsic)

-- a cell is a candidate with one sum
pub only-sum : (w : Reports) (site : SiteView) (serving other place bsic sum : ℕ) → HasOneName site serving other place bsic → sum ≡ sum_named place bsic w.reports
    → IsOnlyCandidateIn w site serving other (record { cell = other; sum = sum })
only-sum w site serving other place bsic sum one is_sum c e is =
    let sums : c.sum ≡ sum = sum-by_name w site serving other place bsic one c e is ∙ sym is_sum in
    λ i. record { cell = e i; sum = sums i }

-- a cell whose sum is too small
pub none-weak : (w : Reports) (site : SiteView) (serving other place bsic : ℕ) → HasOneName site serving other place bsic
    → sum_named place bsic w.reports < max (sum_used w.reports + site.handover.margin * site.handover.window) (site.handover.minimum * site.handover.window)
    → NoCandidateIn w site serving other
none-weak w site serving other place bsic one weak c e is =
    let sum = sum-by_name w site serving other place bsic one c e is in
    let margin = is.margin in
    let minimum = is.minimum in
    omega arith

-- every candidate has a number of the site
pub candidate-within : (w : Reports) (site : SiteView) (serving : ℕ) (c : Candidate) → IsCandidate w site serving c → c.cell < first_outside + length site.outside
candidate-within w site serving c is =
    let (identity, known, ncc) = identity_of_part site c.cell (is.bsic / 8) (λ i. i.ncc) is.name.network in
    either identity (below_or_not c.cell first_outside) known
  where
    either : (identity : CellIdentity) → ((nat_lt c.cell first_outside ≡ true) × (c.cell < first_outside)) ⊎ ((nat_lt c.cell first_outside ≡ false) × (first_outside ≤ c.cell))
        → identity_at site c.cell ≡ Some identity → c.cell < first_outside + length site.outside
    either identity (inl p) e = let low = p.1 in omega arith
    either identity (inr p) e =
        let at : slice_get site.outside (c.cell - first_outside) ≡ Some identity =
        sym (ap (λ b. if b then option_map (λ v. v.identity) (slice_get site.cells c.cell) else slice_get site.outside (c.cell - first_outside)) p.0) ∙ e in
        let within = slice_get_within site.outside (c.cell - first_outside) identity at in
        let high = p.1 in
        omega arith

-- The list has the candidates of the cells below a number, in order.
pub record IsListBelow (w : Reports) (site : SiteView) (serving n : ℕ) (found : List Candidate) : Type 0 where
  pub members : (c : Candidate) → Contains found c ↔ (IsCandidate w site serving c × (c.cell < n))
  pub order : AllPairs StandsBefore found

nothing : (c : Candidate) → ¬ Contains [] c
nothing c (k, lt, e) = absurd (omega arith)

pub list-none : (w : Reports) (site : SiteView) (serving : ℕ) → IsListBelow w site serving 0 []
list-none w site serving = record { members = λ c. (λ h. absurd (nothing c h), λ h. let low = h.1 in absurd (omega arith)); order = λ i j d lt within. absurd (omega arith) }

-- the next cell isn't one
pub list-same : (w : Reports) (site : SiteView) (serving n : ℕ) (found : List Candidate) → IsListBelow w site serving n found → NoCandidateIn w site serving n → IsListBelow w site serving (n + 1) found
list-same w site serving n found below none = record {
  members = λ c. (
    λ h. let is = (below.members c).0 h in let low = is.1 in (is.0, omega arith),
    λ h. elim (below_or_not c.cell n) [ inl p ↦ (below.members c).1 (h.0, p.1) | inr p ↦ let high = p.1 in let low = h.1 in absurd (none c (omega arith) h.0) ],
  );
  order = below.order;
}

-- the cells of a list below a number lie below it
pub list-lower : (w : Reports) (site : SiteView) (serving n : ℕ) (found : List Candidate) → IsListBelow w site serving n found → All (λ c. c.cell < n) found
list-lower w site serving n found below = λ k d lt. ((below.members (get_or found k d)).0 (Contains-get_or found k d lt)).1

-- the next cell is one
pub list-more : (w : Reports) (site : SiteView) (serving n : ℕ) (found : List Candidate) (x : Candidate) (new : List Candidate)
    → x.cell ≡ n → IsListBelow w site serving n found → IsCandidate w site serving x → IsOnlyCandidateIn w site serving n x
    → HasOneMore found x new → AllPairs StandsBefore new → IsListBelow w site serving (n + 1) new
list-more w site serving n found x new at below is only more order = record {
  members = λ c. (λ h. old_or_new c ((more c).0 h), λ h. (more c).1 (among c h));
  order = order;
}
  where
    old_or_new : (c : Candidate) → (c ≡ x) ⊎ Contains found c → IsCandidate w site serving c × (c.cell < n + 1)
    old_or_new c (inl e) = let same : c.cell ≡ x.cell = ap (λ v. v.cell) e in (subst (IsCandidate w site serving) (sym e) is, omega arith)
    old_or_new c (inr h) = let old = (below.members c).0 h in let low = old.1 in (old.0, omega arith)

    among : (c : Candidate) → IsCandidate w site serving c × (c.cell < n + 1) → (c ≡ x) ⊎ Contains found c
    among c h = elim (below_or_not c.cell n) [
      | inl p ↦ inr ((below.members c).1 (h.0, p.1))
      | inr p ↦ let high = p.1 in let low = h.1 in inl (only c (omega arith) h.0)
    ]

-- the list of all cells of the site has every candidate
pub list-all : (w : Reports) (site : SiteView) (serving n : ℕ) (found : List Candidate) → IsListBelow w site serving n found → first_outside + length site.outside ≤ n
    → (c : Candidate) → Contains found c ↔ IsCandidate w site serving c
list-all w site serving n found below all c =
    (λ h. ((below.members c).0 h).0, λ is. let within = candidate-within w site serving c is in (below.members c).1 (is, omega arith))
