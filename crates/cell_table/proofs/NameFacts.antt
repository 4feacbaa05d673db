-- The place and the code by which a mobile names a neighbour.
use Rattle.std.proofs.Common.{◌≡◌, ◌↔◌, ℕ, ◌/◌, ◌%◌, ◌≤◌, ◌==◌, ◌&&◌, Bool, true, false, IsTrue, if◌then◌else◌, List, Option, Some, None, option_map, option_and_then, slice_get, count_by, nat_lt, ◌-◌, All, refl, sym, ◌∙◌, ap, subst, arith}
use Rattle.std.proofs.lemmas.Bool.{and_parts}
use Rattle.std.proofs.lemmas.Bool.{eqb-true, eq-eqb}
use Rattle.std.proofs.lemmas.Option.{none-some, same_Some, slice_get_within, get_or_from_slice_get}
use Rattle.std.specs.List.{list_any}
use Rattle.cell_table.specs.declared.tables.CellIdentity.{CellIdentity}
use Rattle.cell_table.specs.Views.{CellView, SiteView}
use Rattle.cell_table.specs.Limits.{first_outside}
use Rattle.cell_table.specs.Site.{IsSite, IsCell, IsIdentity, identity_at}
use Rattle.cell_table.specs.Neighbours.{IsNamedCell}
use Rattle.cell_table.specs.Searches.{stands_before, is_at, has_bsic, is_named}
use Rattle.cell_table.specs.ReportedNeighbours.{bsic_of, name_of, reported_as}
use Rattle.cell_table.proofs.Lookups.{Passes}
use Rattle.cell_table.proofs.NeighbourFacts.{named_in, not_served}

-- the parts of a name that is there
parts : (b : Bool) (n k place bsic : ℕ) → option_map {U = ℕ × ℕ} (λ p. (p, k)) (if b then Some n else None) ≡ Some (place, bsic) → (b ≡ true) × (n ≡ place) × (k ≡ bsic)
parts true n k place bsic e =
    let there : ℕ × ℕ = (n, k) in
    let found : ℕ × ℕ = (place, bsic) in
    let same : there ≡ found = same_Some there found e in
    (refl, ap (λ (p : ℕ × ℕ). p.0) same, ap (λ (p : ℕ × ℕ). p.1) same)
parts false n k place bsic e = absurd cc

-- four tests that all pass
four : (p q b r : Bool) → p ≡ true → q ≡ true → b ≡ true → r ≡ true → ((p && q) && (b && r)) ≡ true
four p q b r hp hq hb hr = rw (hp, hq, hb, hr) refl

to_name : (ba : List ℕ) (c : CellIdentity) → IsIdentity c → (place bsic : ℕ) → name_of ba c ≡ Some (place, bsic) → IsTrue (is_named ba place bsic c)
to_name ba c range place bsic e =
    let among = list_any (λ other. other == c.bcch) ba in
    let before = count_by (λ other. stands_before other c.bcch) ba in
    let (there, at, code) = parts among before (bsic_of c) place bsic e in
    let bcc : c.bcc ≤ 7 = range.bcc.1 in
    let high : c.ncc ≡ bsic / 8 = omega arith in
    let low : c.bcc ≡ bsic % 8 = omega arith in
    four (c.ncc == bsic / 8) (c.bcc == bsic % 8) among (before == place) (eq-eqb c.ncc (bsic / 8) high) (eq-eqb c.bcc (bsic % 8) low) there (eq-eqb before place at)

from_name : (ba : List ℕ) (c : CellIdentity) (place bsic : ℕ) → IsTrue (is_named ba place bsic c) → name_of ba c ≡ Some (place, bsic)
from_name ba c place bsic named =
    let among = list_any (λ other. other == c.bcch) ba in
    let before = count_by (λ other. stands_before other c.bcch) ba in
    let (code, at) = and_parts (has_bsic bsic c) (is_at ba place c.bcch) named in
    let (ncc, bcc) = and_parts (c.ncc == bsic / 8) (c.bcc == bsic % 8) code in
    let (there, count) = and_parts among (before == place) at in
    let high : c.ncc ≡ bsic / 8 = eqb-true c.ncc (bsic / 8) ncc in
    let low : c.bcc ≡ bsic % 8 = eqb-true c.bcc (bsic % 8) bcc in
    let same : bsic_of c ≡ bsic = omega arith in
    let here : before ≡ place = eqb-true before place count in
    ap (λ b. option_map {U = ℕ × ℕ} (λ p. (p, bsic_of c)) (if b then Some before else None)) there ∙ ap (λ n. Some (n, bsic_of c)) here ∙ ap (λ k. Some (place, k)) same

-- what holds of each element holds of the one at a place
All-get : {X : Type 0} (P : X → Type 0) (xs : List X) (i : ℕ) (x : X) → All P xs → slice_get xs i ≡ Some x → P x
All-get P xs i x each at = subst P (get_or_from_slice_get xs i x x at) (each i x (slice_get_within xs i x at))

-- the colour of each cell of a site fits
pub identity_range : (site : SiteView) → IsSite site → (cell : ℕ) (c : CellIdentity) → identity_at site cell ≡ Some c → IsIdentity c
identity_range site sound cell c at = either (nat_lt cell first_outside) (slice_get site.cells cell) refl at
  where
    either : (own : Bool) (o : Option CellView) → slice_get site.cells cell ≡ o → (if own then option_map (λ v. v.identity) o else slice_get site.outside (cell - first_outside)) ≡ Some c → IsIdentity c
    either true None there e = absurd cc
    either true (Some v) there e = subst IsIdentity (same_Some v.identity c e) (All-get IsCell site.cells cell v sound.within.each_cell there).identity
    either false o there e = All-get IsIdentity site.outside (cell - first_outside) c sound.within.each_outside e

-- in a site a cell's place and code are what a mobile names it by
pub name_is : (site : SiteView) → IsSite site → (cell neighbour place bsic : ℕ) → (reported_as site cell neighbour ≡ Some (place, bsic)) ↔ IsNamedCell site cell place bsic neighbour
name_is site sound cell neighbour place bsic = by (slice_get site.cells cell) refl
  where
    looked_up : (o : Option CellView) → slice_get site.cells cell ≡ o
        → reported_as site cell neighbour ≡ option_and_then {U = ℕ × ℕ} (λ serving. option_and_then (name_of serving.ba) (identity_at site neighbour)) o
    looked_up o own = ap (λ o. option_and_then {U = ℕ × ℕ} (λ serving. option_and_then (name_of serving.ba) (identity_at site neighbour)) o) own

    none : reported_as site cell neighbour ≡ None → reported_as site cell neighbour ≡ Some (place, bsic) → IsNamedCell site cell place bsic neighbour
    none nothing e = absurd (none-some {A = ℕ × ℕ} (place, bsic) (sym nothing ∙ e))

    there : (own : CellView) (i : Option CellIdentity) → identity_at site neighbour ≡ i → option_and_then {U = ℕ × ℕ} (name_of own.ba) i ≡ Some (place, bsic)
        → Passes (is_named own.ba place bsic) site neighbour
    there own None known e = absurd cc
    there own (Some identity) known e =
        record { identity = identity; there = known; passes = to_name own.ba identity (identity_range site sound neighbour identity known) place bsic e }

    by : (o : Option CellView) → slice_get site.cells cell ≡ o → (reported_as site cell neighbour ≡ Some (place, bsic)) ↔ IsNamedCell site cell place bsic neighbour
    by None own = (none (looked_up None own), λ is. absurd (not_served site cell place bsic neighbour own is))
    by (Some serving) own = (λ e. names.0 (there serving (identity_at site neighbour) refl (sym (looked_up (Some serving) own) ∙ e)), back)
      where
        names : Passes (is_named serving.ba place bsic) site neighbour ↔ IsNamedCell site cell place bsic neighbour
        names = named_in site sound cell place bsic neighbour serving own

        back : IsNamedCell site cell place bsic neighbour → reported_as site cell neighbour ≡ Some (place, bsic)
        back is =
            let named = names.1 is in
            looked_up (Some serving) own ∙ ap (λ i. option_and_then {U = ℕ × ℕ} (name_of serving.ba) i) named.there
            ∙ from_name serving.ba named.identity place bsic named.passes
