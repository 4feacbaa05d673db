-- Of cells of which no two are alike, at most one passes a test that makes alike what passes it.
use Rattle.std.proofs.Common.{◌≡◌, ◌⊎◌, ℕ, zero, suc, ◌+◌, ◌-◌, ◌<◌, nat_lt, Bool, true, false, if◌then◌else◌, List, [], ◌∷◌, ◌++◌, length, map, Option, Some, None, option_map, slice_get, refl, sym, ◌∙◌, ap, inl, inr, zero-add, suc-add, arith}
use Rattle.std.proofs.lemmas.Bool.{false≢true, or_parts}
use Rattle.std.proofs.lemmas.Bool.Decides.{nat_tests}
use Rattle.std.proofs.lemmas.Option.{same_Some, none-some, slice_get_within, slice_get-map}
use Rattle.std.proofs.lemmas.List.{length-map}
use Rattle.std.specs.List.{list_any}
use Rattle.cell_table.specs.declared.tables.CellIdentity.{CellIdentity}
use Rattle.cell_table.specs.Site.{CellView, SiteView, identity_at}
use Rattle.cell_table.specs.Rules.{identities}
use Rattle.cell_table.specs.Searches.{has_pair}

-- where no element passes, none at a place does
pub none_at : {A : Type 0} (p : A → Bool) (xs : List A) (i : ℕ) (x : A) → list_any p xs ≡ false → slice_get xs i ≡ Some x → p x ≡ false
none_at p [] i x none there = absurd (none-some x there)
none_at p (y ∷ xs) zero x none there = ap p (sym (same_Some y x there)) ∙ (or_parts (p y) (list_any p xs) none).0
none_at p (y ∷ xs) (suc i) x none there = none_at p xs i x (or_parts (p y) (list_any p xs) none).1 there

-- where none is like a later one, two places of alike elements are no two places
later : {A : Type 0} (alike : A → A → Bool) (xs : List A) (i j : ℕ) (x y : A)
    → has_pair alike xs ≡ false → slice_get xs i ≡ Some x → slice_get xs j ≡ Some y → i < j → alike x y ≡ false
later alike [] i j x y once at_i at_j before = absurd (none-some x at_i)
later alike (z ∷ xs) zero zero x y once at_i at_j before = absurd (omega arith)
later alike (z ∷ xs) zero (suc j) x y once at_i at_j before =
    ap (λ w. alike w y) (sym (same_Some z x at_i)) ∙ none_at (alike z) xs j y (or_parts (list_any (alike z) xs) (has_pair alike xs) once).0 at_j
later alike (z ∷ xs) (suc i) zero x y once at_i at_j before = absurd (omega arith)
later alike (z ∷ xs) (suc i) (suc j) x y once at_i at_j before =
    later alike xs i j x y (or_parts (list_any (alike z) xs) (has_pair alike xs) once).1 at_i at_j (omega arith)

pub one_place : {A : Type 0} (alike : A → A → Bool) (xs : List A) (i j : ℕ) (x y : A)
    → has_pair alike xs ≡ false → slice_get xs i ≡ Some x → slice_get xs j ≡ Some y → alike x y ≡ true → alike y x ≡ true → i ≡ j
one_place alike xs i j x y once at_i at_j there back =
    elim (order i j) [
      | inl (inl before) ↦ absurd (false≢true (sym (later alike xs i j x y once at_i at_j before) ∙ there))
      | inl (inr after) ↦ absurd (false≢true (sym (later alike xs j i y x once at_j at_i after) ∙ back))
      | inr same ↦ same
    ]
  where
    order : (n m : ℕ) → ((n < m) ⊎ (m < n)) ⊎ (n ≡ m)
    order n m = grind arith

-- the place of a cell among all, the own and then the outside ones
abbrev place_by : SiteView → ℕ → Bool → ℕ
place_by site cell own = if own then cell else length site.cells + (cell - 64)

front : {A : Type 0} (xs ys : List A) (i : ℕ) (x : A) → slice_get xs i ≡ Some x → slice_get (xs ++ ys) i ≡ Some x
front [] ys i x there = absurd (none-some x there)
front (z ∷ xs) ys zero x there = there
front (z ∷ xs) ys (suc i) x there = front xs ys i x there

behind : {A : Type 0} (xs ys : List A) (i : ℕ) → slice_get (xs ++ ys) (length xs + i) ≡ slice_get ys i
behind [] ys i = ap (slice_get ys) (zero-add i)
behind (z ∷ xs) ys i = ap (slice_get (z ∷ (xs ++ ys))) (suc-add (length xs) i) ∙ behind xs ys i

abbrev identity_by : SiteView → ℕ → Bool → Option CellIdentity
identity_by site cell own = if own then option_map (λ c. c.identity) (slice_get site.cells cell) else slice_get site.outside (cell - 64)

in_place : (site : SiteView) (cell : ℕ) (own : Bool) (c : CellIdentity) → identity_by site cell own ≡ Some c → slice_get (identities site) (place_by site cell own) ≡ Some c
in_place site cell true c there =
    front (map (λ own. own.identity) site.cells) site.outside cell c (slice_get-map (λ (own : CellView). own.identity) site.cells cell ∙ there)
in_place site cell false c there =
    ap (λ n. slice_get (identities site) (n + (cell - 64))) (sym (length-map site.cells (λ (own : CellView). own.identity)))
    ∙ behind (map (λ own. own.identity) site.cells) site.outside (cell - 64) ∙ there

-- cells that have one place are one
own_within : (site : SiteView) (cell : ℕ) (c : CellIdentity) → option_map (λ (own : CellView). own.identity) (slice_get site.cells cell) ≡ Some c → cell < length site.cells
own_within site cell c there = by (slice_get site.cells cell) refl there
  where
    by : (o : Option CellView) → slice_get site.cells cell ≡ o → option_map (λ (own : CellView). own.identity) o ≡ Some c → cell < length site.cells
    by None at e = absurd (none-some c e)
    by (Some own) at e = slice_get_within site.cells cell own at

same_cell : (site : SiteView) (one other : ℕ) (own own' : Bool) (c c' : CellIdentity) → nat_lt one 64 ≡ own → nat_lt other 64 ≡ own'
    → identity_by site one own ≡ Some c → identity_by site other own' ≡ Some c' → place_by site one own ≡ place_by site other own' → one ≡ other
same_cell site one other true true c c' is is' there there' same = same
same_cell site one other true false c c' is is' there there' same = absurd (let within = own_within site one c there in omega (arith, within, same))
same_cell site one other false true c c' is is' there there' same = absurd (let within = own_within site other c' there' in omega (arith, within, same))
same_cell site one other false false c c' is is' there there' same = after one other (length site.cells) is is' same
  where
    after : (n m k : ℕ) → nat_lt n 64 ≡ false → nat_lt m 64 ≡ false → k + (n - 64) ≡ k + (m - 64) → n ≡ m
    after n m k a b e = grind (arith, nat_tests)

pub one_cell : (alike : CellIdentity → CellIdentity → Bool) (site : SiteView) (one other : ℕ) (c c' : CellIdentity) → has_pair alike (identities site) ≡ false
    → identity_at site one ≡ Some c → identity_at site other ≡ Some c' → alike c c' ≡ true → alike c' c ≡ true → one ≡ other
one_cell alike site one other c c' once there there' like back =
    same_cell site one other (nat_lt one 64) (nat_lt other 64) c c' refl refl there there'
    (one_place alike (identities site) (place_by site one (nat_lt one 64)) (place_by site other (nat_lt other 64)) c c' once
    (in_place site one (nat_lt one 64) c there) (in_place site other (nat_lt other 64) c' there') like back)
