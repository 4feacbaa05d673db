-- One more candidate in a list in order.
use Rattle.std.proofs.Common.{◌≡◌, ◌<◌, ◌≤◌, ◌+◌, ◌↔◌, ◌⊎◌, inl, inr, ℕ, zero, suc, nat_lt, Bool, true, false, List, [], ◌∷◌, ◌++◌, length, get_or, take, drop, All, AllPairs, Contains, refl, sym, ◌∙◌, subst, arith}
use Rattle.std.proofs.lemmas.List.Kept.{AllPairs-cons}
use Rattle.std.proofs.lemmas.List.Elements.{All-head, All-tail, All-cons, All-append, All-take, All-drop, All-contains, Contains-append_left, Contains-append_right, Contains-append_cases}
use Rattle.std.proofs.lemmas.List.{take-append-drop, get_or-take, get_or-drop, length-take, length-drop}
use Rattle.std.proofs.lemmas.Bool.{ltb-false}
use Rattle.std.proofs.lemmas.Bool.Decides.{Decides-ltb}
use Rattle.ho_candidates.specs.declared.listed.Candidate.{Candidate}
use Rattle.ho_candidates.specs.Order.{StandsBefore, HasOneMore}

-- a number is below another or not, and the test says which
pub below_or_not : (a b : ℕ) → ((nat_lt a b ≡ true) × (a < b)) ⊎ ((nat_lt a b ≡ false) × (b ≤ a))
below_or_not a b = by (nat_lt a b) refl
  where
    by : (r : Bool) → nat_lt a b ≡ r → ((nat_lt a b ≡ true) × (a < b)) ⊎ ((nat_lt a b ≡ false) × (b ≤ a))
    by true e = inl (e, (Decides-ltb a b).0 e)
    by false e = inr (e, ltb-false a b e)

pairs-head : {X : Type 0} (R : X → X → Type 0) (x : X) (xs : List X) → AllPairs R (x ∷ xs) → All (R x) xs
pairs-head R x xs h = λ k d lt. h zero (suc k) d (omega arith) (omega arith)

pairs-tail : {X : Type 0} (R : X → X → Type 0) (x : X) (xs : List X) → AllPairs R (x ∷ xs) → AllPairs R xs
pairs-tail R x xs h = λ i j d lt within. h (suc i) (suc j) d (omega arith) (omega arith)

-- one more at a place where it belongs
pairs-insert : {X : Type 0} (R : X → X → Type 0) (c : X) (xs : List X) (i : ℕ) → AllPairs R xs → All (λ x. R x c) (take i xs) → All (R c) (drop i xs)
    → AllPairs R (take i xs ++ c ∷ drop i xs)
pairs-insert R c [] zero pairs before behind = AllPairs-cons R c [] behind pairs
pairs-insert R c [] (suc i) pairs before behind = AllPairs-cons R c [] behind pairs
pairs-insert R c (x ∷ xs) zero pairs before behind = AllPairs-cons R c (x ∷ xs) behind pairs
pairs-insert R c (x ∷ xs) (suc i) pairs before behind =
    let others = pairs-head R x xs pairs in
    AllPairs-cons R x (take i xs ++ c ∷ drop i xs)
    (All-append (R x) (take i xs) (c ∷ drop i xs) (All-take (R x) i xs others) (All-cons (R x) c (drop i xs) (All-head (λ y. R y c) x (take i xs) before) (All-drop (R x) i xs others)))
    (pairs-insert R c xs i (pairs-tail R x xs pairs) (All-tail (λ y. R y c) x (take i xs) before) behind)

-- one with at least the sum, in a lower cell
stands : (x c : Candidate) → c.sum ≤ x.sum → x.cell < c.cell → StandsBefore x c
stands x c enough lower = elim (below_or_not c.sum x.sum) [ inl p ↦ inl p.1 | inr p ↦ inr (omega arith, lower) ]

-- what stands behind one with less
behind_less : (x y c : Candidate) → x.sum < c.sum → StandsBefore x y → StandsBefore c y
behind_less x y c less (inl more) = inl (omega arith)
behind_less x y c less (inr (same, lower)) = inl (omega arith)

before-place : (found : List Candidate) (c : Candidate) (i : ℕ) → ((k : ℕ) (d : Candidate) → k < i → c.sum ≤ (get_or found k d).sum)
    → All (λ x. x.cell < c.cell) found → All (λ x. StandsBefore x c) (take i found)
before-place found c i enough lower = λ k d lt.
    let below : k < i = omega (arith, length-take i found) in
    let within : k < length found = omega (arith, length-take i found) in
    subst (λ x. StandsBefore x c) (sym (get_or-take i found k d below)) (stands (get_or found k d) c (enough k d below) (lower k d within))

behind-place : (found : List Candidate) (c : Candidate) (i : ℕ) → ((d : Candidate) → i < length found → (get_or found i d).sum < c.sum)
    → AllPairs StandsBefore found → All (StandsBefore c) (drop i found)
behind-place found c i less pairs = λ k d lt. subst (StandsBefore c) (sym (get_or-drop i found k d)) (at k d (omega (arith, length-drop i found)))
  where
    at : (k : ℕ) (d : Candidate) → i + k < length found → StandsBefore c (get_or found (i + k) d)
    at zero d within = let here : i + 0 ≡ i = omega arith in subst (λ n. StandsBefore c (get_or found n d)) (sym here) (inl (less d (omega arith)))
    at (suc k) d within = behind_less (get_or found i d) (get_or found (i + suc k) d) c (less d (omega arith)) (pairs i (i + suc k) d (omega arith) within)

-- one more, before the first that has a smaller sum
pub put-ordered : (found : List Candidate) (c : Candidate) (i : ℕ) → ((k : ℕ) (d : Candidate) → k < i → c.sum ≤ (get_or found k d).sum)
    → ((d : Candidate) → i < length found → (get_or found i d).sum < c.sum) → AllPairs StandsBefore found → All (λ x. x.cell < c.cell) found
    → AllPairs StandsBefore (take i found ++ c ∷ drop i found)
put-ordered found c i enough less pairs lower =
    pairs-insert StandsBefore c found i pairs (before-place found c i enough lower) (behind-place found c i less pairs)

first_or_rest : (c : Candidate) (xs : List Candidate) (x : Candidate) → Contains (c ∷ xs) x → (x ≡ c) ⊎ Contains xs x
first_or_rest c xs x (zero, lt, e) = inl (sym e)
first_or_rest c xs x (suc k, lt, e) = inr (k, omega arith, e)

pub put-members : (found : List Candidate) (c : Candidate) (i : ℕ) → HasOneMore found c (take i found ++ c ∷ drop i found)
put-members found c i x = (there, back)
  where
    in_found : Contains (take i found) x ⊎ Contains (drop i found) x → Contains found x
    in_found (inl p) = subst (λ xs. Contains xs x) (take-append-drop i found) (Contains-append_left (take i found) (drop i found) x p)
    in_found (inr p) = subst (λ xs. Contains xs x) (take-append-drop i found) (Contains-append_right (take i found) (drop i found) x p)

    there : Contains (take i found ++ c ∷ drop i found) x → (x ≡ c) ⊎ Contains found x
    there h = elim (Contains-append_cases (take i found) (c ∷ drop i found) x h) [
      | inl p ↦ inr (in_found (inl p))
      | inr p ↦ elim (first_or_rest c (drop i found) x p) [ inl e ↦ inl e | inr q ↦ inr (in_found (inr q)) ]
    ]

    kept : Contains (take i found) x ⊎ Contains (drop i found) x → Contains (take i found ++ c ∷ drop i found) x
    kept (inl p) = Contains-append_left (take i found) (c ∷ drop i found) x p
    kept (inr (k, lt, e)) = Contains-append_right (take i found) (c ∷ drop i found) x (suc k, omega arith, e)

    back : (x ≡ c) ⊎ Contains found x → Contains (take i found ++ c ∷ drop i found) x
    back (inl e) = Contains-append_right (take i found) (c ∷ drop i found) x (0, omega arith, sym e)
    back (inr p) = kept (Contains-append_cases (take i found) (drop i found) x (subst (λ xs. Contains xs x) (sym (take-append-drop i found)) p))

-- In order there is one list.

not_both : (x y : Candidate) → StandsBefore x y → StandsBefore y x → ⊥
not_both x y (inl p) (inl q) = absurd (omega arith)
not_both x y (inl p) (inr q) = let same = q.0 in absurd (omega arith)
not_both x y (inr p) (inl q) = let same = p.0 in absurd (omega arith)
not_both x y (inr p) (inr q) = let first = p.1 in let second = q.1 in absurd (omega arith)

before_rest : (x : Candidate) (xs : List Candidate) (c : Candidate) → AllPairs StandsBefore (x ∷ xs) → Contains xs c → StandsBefore x c
before_rest x xs c pairs there = All-contains (StandsBefore x) xs c (pairs-head StandsBefore x xs pairs) there

first_of : (x : Candidate) (xs : List Candidate) → Contains (x ∷ xs) x
first_of x xs = (0, omega arith, refl)

nothing_in : (c : Candidate) → Contains [] c → ⊥
nothing_in c (k, lt, e) = absurd (omega arith)

same_first : (x y : Candidate) (xs ys : List Candidate) → AllPairs StandsBefore (x ∷ xs) → AllPairs StandsBefore (y ∷ ys)
    → (x ≡ y) ⊎ Contains ys x → (y ≡ x) ⊎ Contains xs y → x ≡ y
same_first x y xs ys pairs other (inl e) also = e
same_first x y xs ys pairs other (inr p) (inl e) = sym e
same_first x y xs ys pairs other (inr p) (inr q) = absurd (not_both y x (before_rest y ys x other p) (before_rest x xs y pairs q))

-- what is behind the first of one list is behind that of the other
rest_in_rest : (x y : Candidate) (xs ys : List Candidate) → AllPairs StandsBefore (x ∷ xs) → x ≡ y → ((c : Candidate) → Contains (x ∷ xs) c → Contains (y ∷ ys) c)
    → (c : Candidate) → Contains xs c → Contains ys c
rest_in_rest x y xs ys pairs e within c (k, lt, at) =
    elim (first_or_rest y ys c (within c (suc k, omega arith, at))) [
      | inl same ↦
          let before : StandsBefore x c = before_rest x xs c pairs (k, lt, at) in
          let itself : StandsBefore x x = subst (StandsBefore x) (same ∙ sym e) before in
          absurd (not_both x x itself itself)
      | inr p ↦ p
    ]

pub one_list : (xs ys : List Candidate) → AllPairs StandsBefore xs → AllPairs StandsBefore ys → ((c : Candidate) → Contains xs c ↔ Contains ys c) → xs ≡ ys
one_list [] [] pairs other same = refl
one_list [] (y ∷ ys) pairs other same = absurd (nothing_in y ((same y).1 (first_of y ys)))
one_list (x ∷ xs) [] pairs other same = absurd (nothing_in x ((same x).0 (first_of x xs)))
one_list (x ∷ xs) (y ∷ ys) pairs other same =
    let e : x ≡ y = same_first x y xs ys pairs other (first_or_rest y ys x ((same x).0 (first_of x xs))) (first_or_rest x xs y ((same y).1 (first_of y ys))) in
    let rest : xs ≡ ys = one_list xs ys (pairs-tail StandsBefore x xs pairs) (pairs-tail StandsBefore y ys other)
    (λ c. (rest_in_rest x y xs ys pairs e (λ d. (same d).0) c, rest_in_rest y x ys xs other (sym e) (λ d. (same d).1) c)) in
    λ i. e i ∷ rest i
