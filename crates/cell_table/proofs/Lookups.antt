-- What a search over own and outside cells finds: the one cell that passes.
use Rattle.std.proofs.Common.{◌≡◌, ◌↔◌, ℕ, ◌+◌, ◌-◌, ◌<◌, ◌≤◌, nat_lt, Bool, true, false, ◌==◌, if◌then◌else◌, length, Option, Some, None, option_map, slice_get, refl, sym, ◌∙◌, ap, arith}
use Rattle.std.proofs.lemmas.Bool.{false≢true, and_parts, and_from}
use Rattle.std.proofs.lemmas.Bool.Decides.{nat_tests}
use Rattle.std.proofs.lemmas.Option.{same_Some, none-some, slice_get_within}
use Rattle.std.specs.List.{position, list_any}
use Rattle.cell_table.specs.declared.tables.CellIdentity.{CellIdentity}
use Rattle.cell_table.specs.Site.{CellView, SiteView, identity_at, IsSite, IsCellOf}
use Rattle.cell_table.specs.Rules.{identities, same_codes, same_colour, has_no_traffic, first_broken}
use Rattle.cell_table.specs.Searches.{first_cell, own_or_outside, has_codes, has_pair, has_carrier_pair, has_slot_pair, has_neighbour_pair, broken_by_pairs}
use Rattle.cell_table.proofs.Positions.{position_is, position_none}
use Rattle.cell_table.proofs.Unique.{one_cell}
use Rattle.cell_table.proofs.Twice.{found_by_pairs}

-- a cell of the site that passes a test
pub record Passes (test : CellIdentity → Bool) (site : SiteView) (cell : ℕ) : Type 0 where
  pub identity : CellIdentity
  pub there : identity_at site cell ≡ Some identity
  pub passes : test identity ≡ true

below : (n m : ℕ) → n < m → m ≤ 64 → nat_lt n 64 ≡ true
below n m small few = grind (arith, nat_tests)

beyond : (n : ℕ) → nat_lt (64 + n) 64 ≡ false
beyond n = grind (arith, nat_tests)

found_own : (test : CellIdentity → Bool) (site : SiteView) → length site.cells ≤ 64 → (place : ℕ)
    → position (λ (c : CellView). test c.identity) site.cells ≡ Some place → Passes test site place
found_own test site few place e =
    let at = position_is (λ (c : CellView). test c.identity) site.cells place e in
    let own = below place (length site.cells) (slice_get_within site.cells place at.element at.there) few in
    record { identity = at.element.identity; there = rw own (ap (option_map (λ c. c.identity)) at.there); passes = at.passes }

found_outside : (test : CellIdentity → Bool) (site : SiteView) (place : ℕ) → position test site.outside ≡ Some place → Passes test site (64 + place)
found_outside test site place e =
    let at = position_is test site.outside place e in
    let back : (64 + place) - 64 ≡ place = omega arith in
    record { identity = at.element; there = rw (beyond place, back) at.there; passes = at.passes }

found : (test : CellIdentity → Bool) (site : SiteView) → length site.cells ≤ 64 → (cell : ℕ) → first_cell test site ≡ Some cell → Passes test site cell
found test site few cell e = by (position (λ (c : CellView). test c.identity) site.cells) (position test site.outside) refl refl e
  where
    by : (own outside : Option ℕ) → position (λ (c : CellView). test c.identity) site.cells ≡ own → position test site.outside ≡ outside
        → own_or_outside own outside ≡ Some cell → Passes test site cell
    by (Some place) outside is is' e' = let same = same_Some place cell e' in rw (← same) (found_own test site few place is)
    by None (Some place) is is' e' = let same = same_Some (64 + place) cell e' in rw (← same) (found_outside test site place is')
    by None None is is' e' = absurd (none-some cell e')

-- where a cell passes, one is found
not_missed : (test : CellIdentity → Bool) (site : SiteView) (cell : ℕ) → Passes test site cell
    → position (λ (c : CellView). test c.identity) site.cells ≡ None → position test site.outside ≡ None → ⊥
not_missed test site cell is no_own no_outside = by (nat_lt cell 64) is.there
  where
    own_by : (o : Option CellView) → slice_get site.cells cell ≡ o → option_map (λ (c : CellView). c.identity) o ≡ Some is.identity → ⊥
    own_by None at e = none-some is.identity e
    own_by (Some c) at e =
        let fails = position_none (λ (own : CellView). test own.identity) site.cells cell c no_own at in
        false≢true (sym fails ∙ ap test (same_Some c.identity is.identity e) ∙ is.passes)

    by : (own : Bool) → (if own then option_map (λ (c : CellView). c.identity) (slice_get site.cells cell) else slice_get site.outside (cell - 64)) ≡ Some is.identity → ⊥
    by true e = own_by (slice_get site.cells cell) refl e
    by false e = false≢true (sym (position_none test site.outside (cell - 64) is.identity no_outside e) ∙ is.passes)

-- the search answers the cell that passes, where no two of them that pass can be different cells
pub first_cell_is : (test : CellIdentity → Bool) (alike : CellIdentity → CellIdentity → Bool) (site : SiteView) → length site.cells ≤ 64 → has_pair alike (identities site) ≡ false
    → ((x y : CellIdentity) → test x ≡ true → test y ≡ true → alike x y ≡ true) → (cell : ℕ) → (first_cell test site ≡ Some cell) ↔ Passes test site cell
first_cell_is test alike site few once likes cell = (found test site few cell, back)
  where
    by : (o : Option ℕ) → first_cell test site ≡ o → Passes test site cell → first_cell test site ≡ Some cell
    by (Some other) e is =
        let that = found test site few other e in
        let same = one_cell alike site other cell that.identity is.identity once that.there is.there (likes that.identity is.identity that.passes is.passes) (likes is.identity that.identity is.passes that.passes) in
        rw (← same) e
    by None e is = absurd (missed (position (λ (c : CellView). test c.identity) site.cells) (position test site.outside) refl refl e)
      where
        missed : (own outside : Option ℕ) → position (λ (c : CellView). test c.identity) site.cells ≡ own → position test site.outside ≡ outside → own_or_outside own outside ≡ None → ⊥
        missed (Some place) outside a b e' = none-some place (sym e')
        missed None (Some place) a b e' = none-some (64 + place) (sym e')
        missed None None a b e' = not_missed test site cell is a b

    back : Passes test site cell → first_cell test site ≡ Some cell
    back is = by (first_cell test site) refl is

-- codes

equal : (n m : ℕ) → (n == m) ≡ true → n ≡ m
equal n m e = grind (arith, nat_tests)

alike : (n m k : ℕ) → (n == k) ≡ true → (m == k) ≡ true → (n == m) ≡ true
alike n m k e e' = grind (arith, nat_tests)

same : (n m : ℕ) → n ≡ m → (n == m) ≡ true
same n m e = grind (arith, nat_tests)

codes_alike : (lac ci : ℕ) (x y : CellIdentity) → has_codes lac ci x ≡ true → has_codes lac ci y ≡ true → same_codes x y ≡ true
codes_alike lac ci x y e e' =
    let (a, b) = and_parts (x.lac == lac) (x.ci == ci) e in
    let (a', b') = and_parts (y.lac == lac) (y.ci == ci) e' in
    and_from (x.lac == y.lac) (x.ci == y.ci) (alike x.lac y.lac lac a a') (alike x.ci y.ci ci b b')

-- a part of a cell's identity is a number where that cell is there, and that part is the number
pub identity_of_part : (site : SiteView) (cell n : ℕ) (part : CellIdentity → ℕ) → option_map part (identity_at site cell) ≡ Some n → (c : CellIdentity) × (identity_at site cell ≡ Some c) × (part c ≡ n)
identity_of_part site cell n part e = by (identity_at site cell) refl e
  where
    by : (o : Option CellIdentity) → identity_at site cell ≡ o → option_map part o ≡ Some n → (c : CellIdentity) × (identity_at site cell ≡ Some c) × (part c ≡ n)
    by None at e' = absurd (none-some n e')
    by (Some c) at e' = (c, at, same_Some (part c) n e')

pub cell_of_parts : (site : SiteView) (lac ci cell : ℕ) → Passes (has_codes lac ci) site cell ↔ IsCellOf site lac ci cell
cell_of_parts site lac ci cell = (there, back)
  where
    there : Passes (has_codes lac ci) site cell → IsCellOf site lac ci cell
    there is =
        let (a, b) = and_parts (is.identity.lac == lac) (is.identity.ci == ci) is.passes in
        record {
          lac = ap (option_map (λ c. c.lac)) is.there ∙ ap (λ n. Some n) (equal is.identity.lac lac a);
          ci = ap (option_map (λ c. c.ci)) is.there ∙ ap (λ n. Some n) (equal is.identity.ci ci b);
        }

    back : IsCellOf site lac ci cell → Passes (has_codes lac ci) site cell
    back is =
        let (c, at, a) = identity_of_part site cell lac (λ c. c.lac) is.lac in
        let b : Some c.ci ≡ Some ci = ap (option_map (λ c. c.ci)) (sym at) ∙ is.ci in
        record { identity = c; there = at; passes = and_from (c.lac == lac) (c.ci == ci) (same c.lac lac a) (same c.ci ci (same_Some c.ci ci b)) }

-- a site names no cell twice, by its codes or by its colour
broken_parts : (identity colour carrier slot neighbour : Bool) (silent : Option ℕ) → first_broken identity colour carrier slot neighbour silent ≡ None
    → (identity ≡ false) × (colour ≡ false) × (carrier ≡ false) × (slot ≡ false) × (neighbour ≡ false)
broken_parts true b c d e silent none = absurd (none-some _ (sym none))
broken_parts false true c d e silent none = absurd (none-some _ (sym none))
broken_parts false false true d e silent none = absurd (none-some _ (sym none))
broken_parts false false false true e silent none = absurd (none-some _ (sym none))
broken_parts false false false false true silent none = absurd (none-some _ (sym none))
broken_parts false false false false false silent none = (refl, refl, refl, refl, refl)

pub unbroken_parts : (site : SiteView) → IsSite site → (has_pair same_codes (identities site) ≡ false) × (has_pair same_colour (identities site) ≡ false)
    × (list_any has_carrier_pair site.cells ≡ false) × (list_any has_slot_pair site.cells ≡ false) × (list_any has_neighbour_pair site.cells ≡ false)
unfolding broken_by_pairs
unbroken_parts site limits = broken_parts _ _ _ _ _ (position has_no_traffic site.cells) (sym (found_by_pairs site) ∙ limits.rules)

-- the cell of a location area code and a cell identity
pub cell_of_is : (site : SiteView) → IsSite site → (lac ci cell : ℕ) → (first_cell (has_codes lac ci) site ≡ Some cell) ↔ IsCellOf site lac ci cell
cell_of_is site limits lac ci cell =
    let (there, back) = first_cell_is (has_codes lac ci) same_codes site limits.within.cell_count.1 (unbroken_parts site limits).0 (codes_alike lac ci) cell in
    let (parts, whole) = cell_of_parts site lac ci cell in
    (λ e. parts (there e), λ is. back (whole is))

pub codes_name_one : (site : SiteView) → IsSite site → (lac ci one other : ℕ) → IsCellOf site lac ci one → IsCellOf site lac ci other → one ≡ other
codes_name_one site limits lac ci one other is is' =
    same_Some one other (sym ((cell_of_is site limits lac ci one).1 is) ∙ (cell_of_is site limits lac ci other).1 is')
