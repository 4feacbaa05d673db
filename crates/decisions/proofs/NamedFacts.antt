-- Where a carrier stands in a neighbour list, and which cells there are.
use Rattle.std.proofs.Common.{◌≡◌, ◌↔◌, ◌⊎◌, ◌+◌, ◌-◌, ◌<◌, ◌≤◌, ◌==◌, ◌||◌, inl, inr, ℕ, Bool, true, false, nat_lt, if◌then◌else◌, List, [], ◌∷◌, length, count_by, Option, Some, None, option_map, option_and_then, slice_get, find, All, refl, sym, ◌∙◌, ap, arith}
use Rattle.std.specs.List.{list_any}
use Rattle.std.proofs.lemmas.Bool.{true≢false, and_parts}
use Rattle.std.proofs.lemmas.Bool.Decides.{nat_tests}
use Rattle.std.proofs.lemmas.Option.{same_Some, none-some, slice_get_within}
use Rattle.cell_table.specs.Limits.{first_outside, most_carrier}
use Rattle.cell_table.specs.declared.tables.CellIdentity.{CellIdentity}
use Rattle.cell_table.specs.Site.{CellView, SiteView, identity_at, IsSite, IsCell}
use Rattle.cell_table.specs.Neighbours.{neighbour_list, neighbour_at}
use Rattle.cell_table.specs.Searches.{stands_before, is_at, has_neighbour_pair}
use Rattle.cell_table.proofs.SiteFacts.{got}
use Rattle.cell_table.proofs.Unique.{none_at}
use Rattle.cell_table.proofs.Lookups.{unbroken_parts, identity_of_part}
use Rattle.cell_table.proofs.NeighbourFacts.{is_at_is}
use Rattle.ho_candidates.proofs.OrderFacts.{below_or_not}

-- what is found passes
found_passes : (p : ℕ → Bool) (xs : List ℕ) (n : ℕ) → find p xs ≡ Some n → p n ≡ true
found_passes p [] n e = absurd (none-some n e)
found_passes p (x ∷ xs) n e = by (p x) refl (found_passes p xs n)
  where
    by : (b : Bool) → p x ≡ b → (find p xs ≡ Some n → p n ≡ true) → p n ≡ true
    by true is behind =
        let one : x ≡ n = same_Some x n (sym (ap (λ b. if b then Some x else find p xs) is) ∙ e) in
        ap p (sym one) ∙ is
    by false is behind = behind (sym (ap (λ b. if b then Some x else find p xs) is) ∙ e)

-- where nothing is found no number of the list passes
none_passes : (p : ℕ → Bool) (xs : List ℕ) (n : ℕ) → find p xs ≡ None → list_any (λ m. m == n) xs ≡ true → p n ≡ false
none_passes p [] n e there = absurd (true≢false (sym there))
none_passes p (x ∷ xs) n e there = by (p x) refl (x == n) refl (none_passes p xs n)
  where
    by : (b : Bool) → p x ≡ b → (c : Bool) → (x == n) ≡ c → (find p xs ≡ None → list_any (λ m. m == n) xs ≡ true → p n ≡ false) → p n ≡ false
    by true is c at behind = absurd (none-some x (sym e ∙ ap (λ b. if b then Some x else find p xs) is))
    by false is true at behind = let same : x ≡ n = grind (arith, nat_tests) in ap p (sym same) ∙ is
    by false is false at behind = behind (sym (ap (λ b. if b then Some x else find p xs) is) ∙ e) (sym (ap (λ c. c || list_any (λ m. m == n) xs) at) ∙ there)

-- a carrier of a BA list is at a place where the neighbour list has it there
listed : (site : SiteView) → IsSite site → (serving : ℕ) (own : CellView) → slice_get site.cells serving ≡ Some own → (place carrier : ℕ)
    → (is_at own.ba place carrier ≡ true) ↔ (slice_get (neighbour_list own.ba) place ≡ Some carrier)
listed site limits serving own at place carrier = is_at_is own.ba place carrier small once
  where
    small : All (λ c. c ≤ most_carrier) own.ba
    small = λ k d within. ((got IsCell site.cells serving own limits.within.each_cell at).neighbours k d within).1

    once : has_neighbour_pair own ≡ false
    once = none_at has_neighbour_pair site.cells serving own (unbroken_parts site limits).4 at

-- what is found is what stands there
pub carrier_found : (site : SiteView) → IsSite site → (serving place : ℕ) (ba : List ℕ) → option_map (λ c. c.ba) (slice_get site.cells serving) ≡ Some ba
    → find (λ carrier. is_at ba place carrier) ba ≡ neighbour_at site serving place
carrier_found site limits serving place ba e = by (slice_get site.cells serving) refl
  where
    of_cell : (own : CellView) → slice_get site.cells serving ≡ Some own → find (λ carrier. is_at own.ba place carrier) own.ba ≡ slice_get (neighbour_list own.ba) place
    of_cell own at = cases (find (λ carrier. is_at own.ba place carrier) own.ba) refl (slice_get (neighbour_list own.ba) place) refl
      where
        cases : (f : Option ℕ) → find (λ carrier. is_at own.ba place carrier) own.ba ≡ f → (l : Option ℕ) → slice_get (neighbour_list own.ba) place ≡ l
            → find (λ carrier. is_at own.ba place carrier) own.ba ≡ slice_get (neighbour_list own.ba) place
        cases (Some c) is l at' = is ∙ sym ((listed site limits serving own at place c).0 (found_passes (λ carrier. is_at own.ba place carrier) own.ba c is))
        cases None is None at' = is ∙ sym at'
        cases None is (Some c) at' =
            let there : is_at own.ba place c ≡ true = (listed site limits serving own at place c).1 at' in
            let one = (and_parts (list_any (λ other. other == c) own.ba) (count_by (λ other. stands_before other c) own.ba == place) there).0 in
            absurd (true≢false (sym there ∙ none_passes (λ carrier. is_at own.ba place carrier) own.ba c is one))

    by : (o : Option CellView) → slice_get site.cells serving ≡ o → find (λ carrier. is_at ba place carrier) ba ≡ neighbour_at site serving place
    by None at = absurd (none-some ba (sym (ap (option_map (λ (c : CellView). c.ba)) at) ∙ e))
    by (Some own) at =
        let same : own.ba ≡ ba = same_Some own.ba ba (sym (ap (option_map (λ (c : CellView). c.ba)) at) ∙ e) in
        ap (λ b. find (λ carrier. is_at b place carrier) b) (sym same) ∙ of_cell own at ∙ sym (ap (option_and_then (λ c. slice_get (neighbour_list c.ba) place)) at)

-- a cell that isn't an own one has no neighbour list
pub none_listed : (site : SiteView) (serving place : ℕ) → option_map (λ c. c.ba) (slice_get site.cells serving) ≡ None → neighbour_at site serving place ≡ None
none_listed site serving place e = by (slice_get site.cells serving) refl
  where
    by : (o : Option CellView) → slice_get site.cells serving ≡ o → neighbour_at site serving place ≡ None
    by None at = ap (option_and_then (λ c. slice_get (neighbour_list c.ba) place)) at
    by (Some own) at = absurd (none-some own.ba (sym e ∙ ap (option_map (λ (c : CellView). c.ba)) at))

-- every cell has a number of the site
pub cell_within : (site : SiteView) (cell carrier : ℕ) → option_map (λ c. c.bcch) (identity_at site cell) ≡ Some carrier → cell < first_outside + length site.outside
cell_within site cell carrier e =
    let (identity, known, bcch) = identity_of_part site cell carrier (λ i. i.bcch) e in
    by identity (below_or_not cell first_outside) known
  where
    by : (identity : CellIdentity) → ((nat_lt cell first_outside ≡ true) × (cell < first_outside)) ⊎ ((nat_lt cell first_outside ≡ false) × (first_outside ≤ cell))
        → identity_at site cell ≡ Some identity → cell < first_outside + length site.outside
    by identity (inl p) known = let low = p.1 in omega arith
    by identity (inr p) known =
        let at : slice_get site.outside (cell - first_outside) ≡ Some identity =
        sym (ap (λ b. if b then option_map (λ v. v.identity) (slice_get site.cells cell) else slice_get site.outside (cell - first_outside)) p.0) ∙ known in
        let within = slice_get_within site.outside (cell - first_outside) identity at in
        let high = p.1 in
        omega arith
