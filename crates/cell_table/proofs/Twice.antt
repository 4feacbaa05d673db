-- What it takes that two of a list are alike, element by element.
use Rattle.std.proofs.Common.{◌≡◌, ◌==◌, ◌&&◌, ◌||◌, ◌+◌, ◌≤◌, ℕ, Bool, true, false, cond, nat_lt, List, [], ◌∷◌, count_by, refl, sym, ap, ◌∙◌, inl, inr, zero-add, arith}
use Rattle.std.specs.List.{list_any, AllByRecursion}
use Rattle.std.proofs.lemmas.Bool.{cases_Bool, false≢true, or_parts}
use Rattle.std.proofs.lemmas.Bool.Decides.{nat_tests}
use Rattle.std.proofs.lemmas.List.Sums.{sum_by-cons}
use Rattle.std.proofs.lemmas.Bool.{eq-eqb, and_from}
use Rattle.std.proofs.lemmas.Bool.Decides.{Decides-eqb, same_from_decides}
use Rattle.std.specs.List.{position}
use Rattle.cell_table.specs.declared.tables.CellIdentity.{CellIdentity}
use Rattle.cell_table.specs.Views.{TrxView, SiteView}
use Rattle.cell_table.specs.Rules.{has_twice, same_codes, same_colour, identities, has_no_traffic, first_broken, broken_rule}
use Rattle.cell_table.specs.Searches.{has_pair, broken_by_pairs}

counted : {A : Type 0} (p : A → Bool) (x : A) (xs : List A) → count_by p (x ∷ xs) ≡ cond (p x) 1 0 + count_by p xs
counted p x xs = sum_by-cons (λ y. cond (p y) 1 0) x xs

-- none is counted exactly where a test finds none
none_counted : {A : Type 0} (p : A → Bool) (xs : List A) → list_any p xs ≡ false → count_by p xs ≡ 0
none_counted p [] e = refl
none_counted p (x ∷ xs) e =
    let (here, rest) = or_parts (p x) (list_any p xs) e in
    let one = counted p x xs ∙ ap (λ b. cond b 1 0 + count_by p xs) here in
    let none = none_counted p xs rest in
    omega (arith, one, none)

some_counted : {A : Type 0} (p : A → Bool) (xs : List A) → list_any p xs ≡ true → 1 ≤ count_by p xs
some_counted p [] e = absurd (false≢true e)
some_counted p (x ∷ xs) e =
    elim (cases_Bool (p x)) [
      | inl here ↦ let one = counted p x xs ∙ ap (λ b. cond b 1 0 + count_by p xs) here in omega (arith, one)
      | inr other ↦
          let one = counted p x xs ∙ ap (λ b. cond b 1 0 + count_by p xs) other in
          let more = some_counted p xs (sym (ap (λ b. b || list_any p xs) other) ∙ e) in
          omega (arith, one, more)
    ]

-- tests that find the same of each element find the same of the list
any_same : {A : Type 0} (p q : A → Bool) (xs : List A) → AllByRecursion (λ x. p x ≡ q x) xs → list_any p xs ≡ list_any q xs
any_same p q [] same = refl
any_same p q (x ∷ xs) same = (λ i. same.0 i || any_same p q xs same.1 i)

-- two are alike where the first is like another, or two of the others are alike
twice_first : {A : Type 0} (alike : A → A → Bool) → ((x : A) → alike x x ≡ true) → ((x y : A) → alike x y ≡ alike y x) → (x : A) (xs : List A)
    → has_twice alike (x ∷ xs) ≡ (list_any (alike x) xs || has_twice alike xs)
twice_first {A} alike itself turns x xs =
    let mine = counted (alike x) x xs ∙ ap (λ b. cond b 1 0 + count_by (alike x) xs) (itself x) in
    elim (cases_Bool (list_any (alike x) xs)) [
      | inl found ↦
          let some = some_counted (alike x) xs found in
          let two : nat_lt 1 (count_by (alike x) (x ∷ xs)) ≡ true = grind (arith, nat_tests) in
          ap (λ b. b || list_any (λ y. nat_lt 1 (count_by (alike y) (x ∷ xs))) xs) two ∙ sym (ap (λ b. b || has_twice alike xs) found)
      | inr none ↦
          let zero = none_counted (alike x) xs none in
          let one : nat_lt 1 (count_by (alike x) (x ∷ xs)) ≡ false = grind (arith, nat_tests) in
          ap (λ b. b || list_any (λ y. nat_lt 1 (count_by (alike y) (x ∷ xs))) xs) one
          ∙ any_same (λ y. nat_lt 1 (count_by (alike y) (x ∷ xs))) (λ y. nat_lt 1 (count_by (alike y) xs)) xs (apart xs none)
          ∙ sym (ap (λ b. b || has_twice alike xs) none)
    ]
  where
    apart : (ys : List A) → list_any (alike x) ys ≡ false → AllByRecursion (λ y. nat_lt 1 (count_by (alike y) (x ∷ xs)) ≡ nat_lt 1 (count_by (alike y) xs)) ys
    apart [] e = tt
    apart (y ∷ ys) e =
        let (here, rest) = or_parts (alike x y) (list_any (alike x) ys) e in
        (ap (λ n. nat_lt 1 n) (counted (alike y) x xs ∙ ap (λ b. cond b 1 0 + count_by (alike y) xs) (sym (turns x y) ∙ here) ∙ zero-add (count_by (alike y) xs)), apart ys rest)

-- two are alike just where one is like a later one
pub twice_is_pair : {A : Type 0} (alike : A → A → Bool) → ((x : A) → alike x x ≡ true) → ((x y : A) → alike x y ≡ alike y x) → (xs : List A)
    → has_twice alike xs ≡ has_pair alike xs
twice_is_pair alike itself turns [] = refl
twice_is_pair alike itself turns (x ∷ xs) =
    twice_first alike itself turns x xs ∙ ap (λ b. list_any (alike x) xs || b) (twice_is_pair alike itself turns xs)

turned : (a b : ℕ) → (a == b) ≡ (b == a)
turned a b = same_from_decides (a == b) (b == a) (Decides-eqb a b) ((λ e. sym ((Decides-eqb b a).0 e)), λ p. (Decides-eqb b a).1 (sym p))

pub number_twice : (xs : List ℕ) → has_twice (λ m n. n == m) xs ≡ has_pair (λ m n. n == m) xs
number_twice xs = twice_is_pair (λ m n. n == m) (λ n. eq-eqb n n refl) (λ m n. turned n m) xs

carrier_twice : (xs : List TrxView) → has_twice (λ s t. t.arfcn == s.arfcn) xs ≡ has_pair (λ s t. t.arfcn == s.arfcn) xs
carrier_twice xs = twice_is_pair (λ (s t : TrxView). t.arfcn == s.arfcn) (λ t. eq-eqb t.arfcn t.arfcn refl) (λ s t. turned t.arfcn s.arfcn) xs

codes_twice : (xs : List CellIdentity) → has_twice same_codes xs ≡ has_pair same_codes xs
codes_twice xs =
    twice_is_pair same_codes (λ x. and_from _ _ (eq-eqb x.lac x.lac refl) (eq-eqb x.ci x.ci refl))
    (λ x y i. turned x.lac y.lac i && turned x.ci y.ci i) xs

colour_twice : (xs : List CellIdentity) → has_twice same_colour xs ≡ has_pair same_colour xs
colour_twice xs =
    twice_is_pair same_colour (λ x. and_from _ _ (eq-eqb x.bcch x.bcch refl) (and_from _ _ (eq-eqb x.ncc x.ncc refl) (eq-eqb x.bcc x.bcc refl)))
    (λ x y i. turned x.bcch y.bcch i && (turned x.ncc y.ncc i && turned x.bcc y.bcc i)) xs

-- the rule that is broken is the one that pairs show
pub found_by_pairs : (site : SiteView) → broken_rule site ≡ broken_by_pairs site
unfolding broken_rule broken_by_pairs
found_by_pairs site = λ i.
    first_broken (codes_twice (identities site) i) (colour_twice (identities site) i) (list_any (λ c. carrier_twice c.trx i) site.cells)
    (list_any (λ c. list_any (λ t. number_twice t.tch i || number_twice t.half i) c.trx) site.cells) (list_any (λ c. number_twice c.ba i) site.cells)
    (position has_no_traffic site.cells)
