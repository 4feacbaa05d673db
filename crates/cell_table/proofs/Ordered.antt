-- Numbers in the order of a list: as many stand before one as come before it.
use Rattle.std.proofs.Common.{◌≡◌, ◌==◌, ℕ, zero, suc, ◌+◌, Bool, true, false, cond, ◌&&◌, ◌||◌, List, [], ◌∷◌, count_by, filter, Some, slice_get, refl, sym, ◌∙◌, ap, subst, zero-add, one-add, arith}
use Rattle.std.proofs.lemmas.Bool.{false≢true, and_right, or_parts, or_left, or_right}
use Rattle.std.proofs.lemmas.Bool.Decides.{nat_tests}
use Rattle.std.proofs.lemmas.Option.{same_Some, none-some}
use Rattle.std.proofs.lemmas.List.Sums.{sum_by-cons}
use Rattle.std.specs.List.{list_any, AllByRecursion}
use Rattle.cell_table.specs.Searches.{has_pair}

-- the number is one of the list
abbrev pub is_in : List ℕ → ℕ → Bool
is_in xs n = list_any (λ m. m == n) xs

-- each stands before those after it, and none of these before it
abbrev pub IsInOrder : (ℕ → ℕ → Bool) → List ℕ → Type 0
IsInOrder before [] = Unit
IsInOrder before (x ∷ xs) = AllByRecursion (λ y. (before x y ≡ true) × (before y x ≡ false)) xs × IsInOrder before xs

same : (n m : ℕ) → (n == m) ≡ true → n ≡ m
same n m e = grind (arith, nat_tests)

equal : (n : ℕ) → (n == n) ≡ true
equal n = grind (arith, nat_tests)

flip : (n m : ℕ) → (n == m) ≡ false → (m == n) ≡ false
flip n m e = grind (arith, nat_tests)

and_true : (b : Bool) → (b && true) ≡ b
and_true true = refl
and_true false = refl

-- how many pass, element by element
abbrev count : (ℕ → Bool) → List ℕ → ℕ
count p [] = 0
count p (x ∷ xs) = cond (p x) 1 0 + count p xs

count-is : (p : ℕ → Bool) (xs : List ℕ) → count_by p xs ≡ count p xs
count-is p [] = refl
count-is p (x ∷ xs) = sum_by-cons (λ n. cond (p n) 1 0) x xs ∙ ap (λ n. cond (p x) 1 0 + n) (count-is p xs)

-- what holds of all holds of one of them
of_one : (P : ℕ → Type 0) (xs : List ℕ) (n : ℕ) → AllByRecursion P xs → is_in xs n ≡ true → P n
of_one P [] n all there = absurd (false≢true there)
of_one P (x ∷ xs) n all there = by (x == n) refl (λ rest. of_one P xs n all.1 rest)
  where
    by : (b : Bool) → (x == n) ≡ b → (is_in xs n ≡ true → P n) → P n
    by true here rest = subst P (same x n here) all.0
    by false other rest = rest (sym (ap (λ b. b || is_in xs n) other) ∙ there)

count_same : (p q : ℕ → Bool) (xs : List ℕ) → AllByRecursion (λ x. p x ≡ q x) xs → count p xs ≡ count q xs
count_same p q [] all = refl
count_same p q (x ∷ xs) all = rw (all.0, count_same p q xs all.1) refl

count_none : (p : ℕ → Bool) (xs : List ℕ) → AllByRecursion (λ x. p x ≡ false) xs → count p xs ≡ 0
count_none p [] all = refl
count_none p (x ∷ xs) all = rw (all.0, count_none p xs all.1) refl

pub all_by : (P : ℕ → Type 0) → ((x : ℕ) → P x) → (xs : List ℕ) → AllByRecursion P xs
all_by P each [] = tt
all_by P each (x ∷ xs) = (each x, all_by P each xs)

all_then : (P Q : ℕ → Type 0) → ((x : ℕ) → P x → Q x) → (xs : List ℕ) → AllByRecursion P xs → AllByRecursion Q xs
all_then P Q then' [] all = tt
all_then P Q then' (x ∷ xs) all = (then' x all.0, all_then P Q then' xs all.1)

-- what stands before others is none of them
is_other : (before : ℕ → ℕ → Bool) → (x y : ℕ) → (before x y ≡ true) × (before y x ≡ false) → (x == y) ≡ false
is_other before x y order = by (x == y) refl
  where
    clash : x ≡ y → ⊥
    clash e = false≢true (sym order.1 ∙ ap (λ n. before n x) (sym e) ∙ ap (before x) e ∙ order.0)

    by : (b : Bool) → (x == y) ≡ b → (x == y) ≡ false
    by true here = absurd (clash (same x y here))
    by false other = other

-- one number more is counted where it stands
more_here : (before : ℕ → ℕ → Bool) (f g : ℕ → Bool) (x : ℕ) (os : List ℕ) → IsInOrder before (x ∷ os) → g x ≡ false
    → count (λ n. f n && ((x == n) || g n)) (x ∷ os) ≡ cond (f x) 1 0 + count (λ n. f n && g n) (x ∷ os)
more_here before f g x os sorted new =
    let rest = count_same (λ n. f n && ((x == n) || g n)) (λ n. f n && g n) os
    (all_then (λ y. (before x y ≡ true) × (before y x ≡ false)) (λ y. (f y && ((x == y) || g y)) ≡ (f y && g y)) (λ y order. ap (λ b. f y && (b || g y)) (is_other before x y order)) os sorted.0) in
    rw (equal x, and_true (f x), new, and_right (f x) false refl, zero-add (count (λ n. f n && g n) os)) (ap (λ n. cond (f x) 1 0 + n) rest)

more_later : (f g : ℕ → Bool) (x o : ℕ) (os : List ℕ) → (o == x) ≡ false
    → count (λ n. f n && ((x == n) || g n)) os ≡ cond (f x) 1 0 + count (λ n. f n && g n) os
    → count (λ n. f n && ((x == n) || g n)) (o ∷ os) ≡ cond (f x) 1 0 + count (λ n. f n && g n) (o ∷ os)
more_later f g x o os other rest = rw (flip o x other, rest) (omega arith)

one_more : (before : ℕ → ℕ → Bool) (f g : ℕ → Bool) (x : ℕ) (order : List ℕ) → IsInOrder before order → is_in order x ≡ true → g x ≡ false
    → count (λ n. f n && ((x == n) || g n)) order ≡ cond (f x) 1 0 + count (λ n. f n && g n) order
one_more before f g x [] sorted there new = absurd (false≢true there)
one_more before f g x (o ∷ os) sorted there new = by (o == x) refl (λ rest. one_more before f g x os sorted.1 rest new)
  where
    by : (b : Bool) → (o == x) ≡ b → (is_in os x ≡ true → count (λ n. f n && ((x == n) || g n)) os ≡ cond (f x) 1 0 + count (λ n. f n && g n) os)
        → count (λ n. f n && ((x == n) || g n)) (o ∷ os) ≡ cond (f x) 1 0 + count (λ n. f n && g n) (o ∷ os)
    by true here rest =
        subst (λ k. IsInOrder before (k ∷ os) → count (λ n. f n && ((x == n) || g n)) (k ∷ os) ≡ cond (f x) 1 0 + count (λ n. f n && g n) (k ∷ os)) (sym (same o x here))
        (λ from_here. more_here before f g x os from_here new) sorted
    by false other rest = more_later f g x o os other (rest (sym (ap (λ b. b || is_in os x) other) ∙ there))

counted : (before : ℕ → ℕ → Bool) (f : ℕ → Bool) (order some : List ℕ) → IsInOrder before order → AllByRecursion (λ n. is_in order n ≡ true) some
    → has_pair (λ m n. n == m) some ≡ false → count f some ≡ count (λ n. f n && is_in some n) order
counted before f order [] sorted all once = sym (count_none (λ n. f n && false) order (all_by (λ n. (f n && false) ≡ false) (λ n. and_right (f n) false refl) order))
counted before f order (x ∷ some) sorted all once =
    let (new, rest) = or_parts (list_any (λ n. n == x) some) (has_pair (λ m n. n == m) some) once in
    ap (λ n. cond (f x) 1 0 + n) (counted before f order some sorted all.1 rest)
    ∙ sym (one_more before f (is_in some) x order sorted all.0 new)

-- as many of some distinct numbers pass as pass in a list that has them all in order
pub count_in_order : (before : ℕ → ℕ → Bool) (f : ℕ → Bool) (order some : List ℕ) → IsInOrder before order → AllByRecursion (λ n. is_in order n ≡ true) some
    → has_pair (λ m n. n == m) some ≡ false → count_by f some ≡ count_by (λ n. f n && is_in some n) order
count_in_order before f order some sorted all once =
    count-is f some ∙ counted before f order some sorted all once ∙ sym (count-is (λ n. f n && is_in some n) order)

-- a number of the order that passes stands where as many that pass come before it
stands_here : (before : ℕ → ℕ → Bool) → ((n : ℕ) → before n n ≡ false) → (q : ℕ → Bool) (c : ℕ) (os : List ℕ) → IsInOrder before (c ∷ os)
    → count (λ n. before n c && q n) (c ∷ os) ≡ 0
stands_here before none q c os sorted =
    rw (
      none c,
      count_none (λ n. before n c && q n) os
          (all_then (λ y. (before c y ≡ true) × (before y c ≡ false)) (λ y. (before y c && q y) ≡ false) (λ y order. ap (λ b. b && q y) order.1) os sorted.0),
    ) refl

stands_by : (before : ℕ → ℕ → Bool) (q : ℕ → Bool) (c o : ℕ) (os : List ℕ) → before o c ≡ true → (b : Bool)
    → slice_get (filter q os) (count (λ n. before n c && q n) os) ≡ Some c
    → slice_get (cond b (o ∷ filter q os) (filter q os)) (cond (before o c && b) 1 0 + count (λ n. before n c && q n) os) ≡ Some c
stands_by before q c o os first true rest = rw (first, one-add (count (λ n. before n c && q n) os)) rest
stands_by before q c o os first false rest = rw (first, zero-add (count (λ n. before n c && q n) os)) rest

stands : (before : ℕ → ℕ → Bool) → ((n : ℕ) → before n n ≡ false) → (q : ℕ → Bool) (c : ℕ) (order : List ℕ) → IsInOrder before order → is_in order c ≡ true → q c ≡ true
    → slice_get (filter q order) (count (λ n. before n c && q n) order) ≡ Some c
stands before none q c [] sorted there passes = absurd (false≢true there)
stands before none q c (o ∷ os) sorted there passes = by (o == c) refl (λ rest. stands before none q c os sorted.1 rest passes)
  where
    here : IsInOrder before (c ∷ os) → slice_get (filter q (c ∷ os)) (count (λ n. before n c && q n) (c ∷ os)) ≡ Some c
    here from_here = ap (slice_get (filter q (c ∷ os))) (stands_here before none q c os from_here) ∙ ap (λ b. slice_get (cond b (c ∷ filter q os) (filter q os)) 0) passes

    by : (b : Bool) → (o == c) ≡ b → (is_in os c ≡ true → slice_get (filter q os) (count (λ n. before n c && q n) os) ≡ Some c)
        → slice_get (filter q (o ∷ os)) (count (λ n. before n c && q n) (o ∷ os)) ≡ Some c
    by true is rest = subst (λ k. IsInOrder before (k ∷ os) → slice_get (filter q (k ∷ os)) (count (λ n. before n c && q n) (k ∷ os)) ≡ Some c) (sym (same o c is)) here sorted
    by false other rest =
        let later = sym (ap (λ b. b || is_in os c) other) ∙ there in
        let first = of_one (λ y. (before o y ≡ true) × (before y o ≡ false)) os c sorted.0 later in
        stands_by before q c o os first.0 (q o) (rest later)

pub stands_at : (before : ℕ → ℕ → Bool) → ((n : ℕ) → before n n ≡ false) → (q : ℕ → Bool) (c : ℕ) (order : List ℕ) → IsInOrder before order → is_in order c ≡ true → q c ≡ true
    → slice_get (filter q order) (count_by (λ n. before n c && q n) order) ≡ Some c
stands_at before none q c order sorted there passes =
    ap (slice_get (filter q order)) (count-is (λ n. before n c && q n) order) ∙ stands before none q c order sorted there passes

-- what stands at a place passes, is one of the order, and as many as the place says come before it
pub record ComesAfter (before : ℕ → ℕ → Bool) (q : ℕ → Bool) (c place : ℕ) (order : List ℕ) : Type 0 where
  pub passes : q c ≡ true
  pub there : is_in order c ≡ true
  pub count : count_by (λ n. before n c && q n) order ≡ place

record Comes (before : ℕ → ℕ → Bool) (q : ℕ → Bool) (c place : ℕ) (order : List ℕ) : Type 0 where
  passes : q c ≡ true
  there : is_in order c ≡ true
  counted : count (λ n. before n c && q n) order ≡ place

comes_by : (before : ℕ → ℕ → Bool) → ((n : ℕ) → before n n ≡ false) → (q : ℕ → Bool) (c place o : ℕ) (os : List ℕ) → IsInOrder before (o ∷ os)
    → ((k : ℕ) → slice_get (filter q os) k ≡ Some c → Comes before q c k os) → (b : Bool) → q o ≡ b → slice_get (cond b (o ∷ filter q os) (filter q os)) place ≡ Some c
    → Comes before q c place (o ∷ os)
comes_by before none q c zero o os sorted rest true is at =
    let e = same_Some o c at in
    record {
      passes = ap q (sym e) ∙ is;
      there = or_left (o == c) (is_in os c) (ap (λ n. n == c) e ∙ equal c);
      counted = subst (λ k. IsInOrder before (k ∷ os) → count (λ n. before n c && q n) (k ∷ os) ≡ 0) (sym e) (stands_here before none q c os) sorted;
    }
comes_by before none q c (suc place) o os sorted rest true is at =
    let then' = rest place at in
    let first = of_one (λ y. (before o y ≡ true) × (before y o ≡ false)) os c sorted.0 then'.there in
    record { passes = then'.passes; there = or_right (o == c) (is_in os c) then'.there; counted = rw (first.0, is, then'.counted) (one-add place) }
comes_by before none q c place o os sorted rest false is at =
    let then' = rest place at in
    record { passes = then'.passes; there = or_right (o == c) (is_in os c) then'.there; counted = rw (is, and_right (before o c) false refl, then'.counted) (zero-add place) }

comes : (before : ℕ → ℕ → Bool) → ((n : ℕ) → before n n ≡ false) → (q : ℕ → Bool) (c place : ℕ) (order : List ℕ) → IsInOrder before order
    → slice_get (filter q order) place ≡ Some c → Comes before q c place order
comes before none q c place [] sorted at = absurd (none-some c at)
comes before none q c place (o ∷ os) sorted at = comes_by before none q c place o os sorted (λ k there. comes before none q c k os sorted.1 there) (q o) refl at

pub comes_after : (before : ℕ → ℕ → Bool) → ((n : ℕ) → before n n ≡ false) → (q : ℕ → Bool) (c place : ℕ) (order : List ℕ) → IsInOrder before order
    → slice_get (filter q order) place ≡ Some c → ComesAfter before q c place order
comes_after before none q c place order sorted at =
    let is = comes before none q c place order sorted at in
    record { passes = is.passes; there = is.there; count = count-is (λ n. before n c && q n) order ∙ is.counted }

-- tests that agree on a list count as many there, and one that passes nowhere none
pub count_by_same : (p q : ℕ → Bool) (xs : List ℕ) → AllByRecursion (λ x. p x ≡ q x) xs → count_by p xs ≡ count_by q xs
count_by_same p q xs all = count-is p xs ∙ count_same p q xs all ∙ sym (count-is q xs)

pub count_by_none : (p : ℕ → Bool) (xs : List ℕ) → AllByRecursion (λ x. p x ≡ false) xs → count_by p xs ≡ 0
count_by_none p xs all = count-is p xs ∙ count_none p xs all
