-- The first place at which a test passes, element by element.
use Rattle.std.proofs.Common.{◌≡◌, ℕ, zero, suc, ◌+◌, nat_lt, Bool, true, false, cond, not, List, [], ◌∷◌, length, Option, Some, None, option_map, slice_get, refl, sym, ◌∙◌, ap, one-add, arith}
use Rattle.std.proofs.lemmas.Bool.Decides.{nat_tests}
use Rattle.std.proofs.lemmas.Option.{same_Some, none-some}
use Rattle.std.specs.List.{position, position_or_len}

one_later : (n : ℕ) (t : Bool) → cond t (Some (suc n)) None ≡ option_map suc (cond t (Some n) None)
one_later n true = refl
one_later n false = refl

before_suc : (n m : ℕ) → nat_lt (1 + n) (suc m) ≡ nat_lt n m
before_suc n m = grind (arith, nat_tests)

at_start : (m : ℕ) → nat_lt 0 (suc m) ≡ true
at_start m = grind (arith, nat_tests)

pub position-cons : {X : Type 0} (p : X → Bool) (x : X) (xs : List X) → position p (x ∷ xs) ≡ cond (p x) (Some 0) (option_map suc (position p xs))
position-cons p x xs = by (p x)
  where
    by : (t : Bool) → cond (nat_lt (cond (not t) (1 + position_or_len p xs) 0) (suc (length xs))) (Some (cond (not t) (1 + position_or_len p xs) 0)) None ≡ cond t (Some 0) (option_map suc (position p xs))
    by true = rw (at_start (length xs)) refl
    by false = rw (before_suc (position_or_len p xs) (length xs), one-add (position_or_len p xs)) (one_later (position_or_len p xs) (nat_lt (position_or_len p xs) (length xs)))

-- what is found stands there, and passes
pub record IsAt {X : Type 0} (p : X → Bool) (xs : List X) (i : ℕ) : Type 0 where
  pub element : X
  pub there : slice_get xs i ≡ Some element
  pub passes : p element ≡ true

found_further : {X : Type 0} (p : X → Bool) (x : X) (xs : List X) (i : ℕ) → ((j : ℕ) → position p xs ≡ Some j → IsAt p xs j)
    → (o : Option ℕ) → position p xs ≡ o → option_map suc o ≡ Some i → IsAt p (x ∷ xs) i
found_further p x xs i in_rest None none e = absurd (none-some i e)
found_further p x xs i in_rest (Some j) found e =
    let rest = in_rest j found in
    let same : suc j ≡ i = same_Some (suc j) i e in
    rw (← same) (record { element = rest.element; there = rest.there; passes = rest.passes })

found_by : {X : Type 0} (p : X → Bool) (x : X) (xs : List X) (i : ℕ) → ((j : ℕ) → position p xs ≡ Some j → IsAt p xs j)
    → (t : Bool) → p x ≡ t → cond t (Some 0) (option_map suc (position p xs)) ≡ Some i → IsAt p (x ∷ xs) i
found_by p x xs i in_rest true passes e = let same : 0 ≡ i = same_Some 0 i e in rw (← same) (record { element = x; there = refl; passes = passes })
found_by p x xs i in_rest false fails e = found_further p x xs i in_rest (position p xs) refl e

pub position_is : {X : Type 0} (p : X → Bool) (xs : List X) (i : ℕ) → position p xs ≡ Some i → IsAt p xs i
position_is p [] i e = absurd (none-some i e)
position_is p (x ∷ xs) i e = found_by p x xs i (λ j found. position_is p xs j found) (p x) refl (sym (position-cons p x xs) ∙ e)

none_before : (o : Option ℕ) → option_map suc o ≡ None → o ≡ None
none_before None e = refl
none_before (Some j) e = absurd (none-some (suc j) (sym e))

none_by : {X : Type 0} (p : X → Bool) (y : X) (xs : List X) (i : ℕ) (x : X) → (position p xs ≡ None → (j : ℕ) → slice_get xs j ≡ Some x → p x ≡ false)
    → (t : Bool) → p y ≡ t → cond t (Some 0) (option_map suc (position p xs)) ≡ None → slice_get (y ∷ xs) i ≡ Some x → p x ≡ false
none_by p y xs i x in_rest true passes e at = absurd (none-some 0 (sym e))
none_by p y xs zero x in_rest false fails e at = ap p (sym (same_Some y x at)) ∙ fails
none_by p y xs (suc i) x in_rest false fails e at = in_rest (none_before (position p xs) e) i at

-- where nothing is found, nothing passes
pub position_none : {X : Type 0} (p : X → Bool) (xs : List X) (i : ℕ) (x : X) → position p xs ≡ None → slice_get xs i ≡ Some x → p x ≡ false
position_none p [] i x e there = absurd (none-some x there)
position_none p (y ∷ xs) i x e there =
    none_by p y xs i x (λ none j at. position_none p xs j x none at) (p y) refl (sym (position-cons p y xs) ∙ e) there
