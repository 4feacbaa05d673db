-- What one more element does to the values that are kept.
use Rattle.std.proofs.Common.{append-nil, ◌≡◌, ◌≢◌, ℕ, ◌<◌, ◌≤◌, zero, suc, List, [], ◌∷◌, ◌++◌, length, ◌⊎◌, inl, inr, Option, Some, None, Bool, true, false, refl, sym, ◌∙◌, ap, cond, eqb, arith, get_or, nat_lt, replicate, Bor}
use Rattle.std.proofs.Math.ListN.{set}
use Rattle.std.proofs.lemmas.Bool.Decides.{nat_tests, eqb_tells}
use Rattle.std.proofs.lemmas.List.{get_or-set_same, get_or-set_other}
use Rattle.octet_elements.specs.Elements.{Element, values_of, nth, first_of, second_of}
use Rattle.std.specs.Option.{is_some}
use Rattle.octet_elements.specs.Lookup.{Lookup, Kept, places, place_from, place_of, lookup, noted}
use Rattle.octet_elements.specs.Values.{value_seen}

-- the values of an identifier after one more element
values_of-add : (j : ℕ) (es : List Element) (e : Element) → values_of j (es ++ e ∷ []) ≡ values_of j es ++ values_of j (e ∷ [])
values_of-add j [] e = refl
values_of-add j ((k, w) ∷ es) e = by_test (eqb k j) w (values_of j es) (values_of j (es ++ e ∷ [])) (values_of j (e ∷ [])) (values_of-add j es e)
  where
    by_test : (b : Bool) (w : List ℕ) (before after last : List (List ℕ)) → after ≡ before ++ last → cond b (w ∷ after) after ≡ cond b (w ∷ before) before ++ last
    by_test true w before after last h = ap (λ t. w ∷ t) h
    by_test false w before after last h = h

nth-add : (n : ℕ) (vs : List (List ℕ)) (v : List ℕ) → n ≢ length vs → nth n vs ≡ nth n (vs ++ v ∷ [])
nth-add zero [] v h = absurd (h refl)
nth-add (suc n) [] v h = refl
nth-add zero (w ∷ vs) v h = refl
nth-add (suc n) (w ∷ vs) v h = nth-add n vs v (λ same. h (ap suc same))

-- at the end of the values stands the one that is added
nth_end : (n : ℕ) (vs : List (List ℕ)) (v : List ℕ) → n ≡ length vs → Some v ≡ nth n (vs ++ v ∷ [])
nth_end zero [] v h = refl
nth_end (suc n) [] v h = absurd (omega arith)
nth_end zero (w ∷ vs) v h = absurd (omega arith)
nth_end (suc n) (w ∷ vs) v h = nth_end n vs v (omega arith)

-- there is no value exactly past the end
nth_none : (n : ℕ) (vs : List (List ℕ)) → nth n vs ≡ None → length vs ≤ n
nth_none n [] h = omega arith
nth_none zero (w ∷ vs) h = absurd cc
nth_none (suc n) (w ∷ vs) h = let less = nth_none n vs h in omega arith

nth_past : (n : ℕ) (vs : List (List ℕ)) → length vs ≤ n → nth n vs ≡ None
nth_past n [] h = refl
nth_past zero (w ∷ vs) h = absurd (omega arith)
nth_past (suc n) (w ∷ vs) h = nth_past n vs (omega arith)

-- the value at a turn after one more element: as it was, unless it is its turn
turn_stays : (j i : ℕ) (v : List ℕ) (es : List Element) (n : ℕ) → (j ≡ i → n ≢ length (values_of j es)) → nth n (values_of j es) ≡ nth n (values_of j (es ++ (i, v) ∷ []))
turn_stays j i v es n turn = by_identifier (eqb_tells i j) ∙ ap (nth n) (sym (values_of-add j es (i, v)))
  where
    by_identifier : ((eqb i j ≡ true) × (i ≡ j)) ⊎ ((eqb i j ≡ false) × (i ≢ j)) → nth n (values_of j es) ≡ nth n (values_of j es ++ values_of j ((i, v) ∷ []))
    by_identifier (inl same) = nth-add n (values_of j es) v (turn (sym same.1)) ∙ ap (λ b. nth n (values_of j es ++ cond b (v ∷ []) [])) (sym same.0)
    by_identifier (inr other) = ap (nth n) (sym (append-nil (values_of j es))) ∙ ap (λ b. nth n (values_of j es ++ cond b (v ∷ []) [])) (sym other.0)

turn_gets : (j i : ℕ) (v : List ℕ) (es : List Element) (n : ℕ) → j ≡ i → n ≡ length (values_of j es) → Some v ≡ nth n (values_of j (es ++ (i, v) ∷ []))
turn_gets j i v es n same turn =
    let test : eqb i j ≡ true = grind (arith, nat_tests) in
    nth_end n (values_of j es) v turn ∙ ap (λ b. nth n (values_of j es ++ cond b (v ∷ []) [])) (sym test) ∙ ap (nth n) (sym (values_of-add j es (i, v)))

if_true : {X : Type 0} (b : Bool) (x d : X) → b ≡ true → cond b x d ≡ x
if_true true x d h = refl
if_true false x d h = absurd cc

if_false : {X : Type 0} (b : Bool) (x d : X) → b ≡ false → cond b x d ≡ d
if_false true x d h = absurd cc
if_false false x d h = refl

-- two identifiers have no place in common
place_least : (n i : ℕ) (known : List ℕ) → place_from n i known < places → n ≤ place_from n i known
place_least n i [] h = absurd (omega arith)
place_least n i (k ∷ known) h = by_test (eqb k i) (place_least (suc n) i known) h
  where
    by_test : (b : Bool) → (place_from (suc n) i known < places → suc n ≤ place_from (suc n) i known) → cond b n (place_from (suc n) i known) < places → n ≤ cond b n (place_from (suc n) i known)
    by_test true least h = omega arith
    by_test false least h = let more = least h in omega arith

one_place : (n i j : ℕ) (known : List ℕ) → place_from n i known < places → place_from n i known ≡ place_from n j known → i ≡ j
one_place n i j [] h same = absurd (omega arith)
one_place n i j (k ∷ known) h same = by_tests (one_place (suc n) i j known) (eqb_tells k i) (eqb_tells k j)
  where
    by_tests : (place_from (suc n) i known < places → place_from (suc n) i known ≡ place_from (suc n) j known → i ≡ j) → ((eqb k i ≡ true) × (k ≡ i)) ⊎ ((eqb k i ≡ false) × (k ≢ i)) → ((eqb k j ≡ true) × (k ≡ j)) ⊎ ((eqb k j ≡ false) × (k ≢ j)) → i ≡ j
    by_tests next (inl p) (inl q) = sym p.1 ∙ q.1
    by_tests next (inl p) (inr q) =
        let a = if_true (eqb k i) n (place_from (suc n) i known) p.0 in
        let b = if_false (eqb k j) n (place_from (suc n) j known) q.0 in
        let least = place_least (suc n) j known (omega arith) in
        absurd (omega arith)
    by_tests next (inr p) (inl q) =
        let a = if_false (eqb k i) n (place_from (suc n) i known) p.0 in
        let b = if_true (eqb k j) n (place_from (suc n) j known) q.0 in
        let least = place_least (suc n) i known (omega arith) in
        absurd (omega arith)
    by_tests next (inr p) (inr q) =
        let a = if_false (eqb k i) n (place_from (suc n) i known) p.0 in
        let b = if_false (eqb k j) n (place_from (suc n) j known) q.0 in
        next (omega arith) (omega arith)

pub same_lookups : (l m : Lookup) → ((j : ℕ) → l.first j ≡ m.first j) → ((j : ℕ) → l.second j ≡ m.second j) → l ≡ m
same_lookups l m first second = λ n. record { first = λ j. first j n; second = λ j. second j n }

-- what is noted at a test, where the value is the same if the test holds
by_true : {X : Type 0} (b : Bool) (x y d : X) → (b ≡ true → x ≡ y) → cond b x d ≡ cond b y d
by_true true x y d h = h refl
by_true false x y d h = refl

first_stays : (known : List ℕ) (es : List Element) (i : ℕ) (v : List ℕ) (j : ℕ) → (place_of j known < places → j ≡ i → 0 ≢ length (values_of j es)) → (noted known es).first j ≡ (noted known (es ++ (i, v) ∷ [])).first j
first_stays known es i v j turn = by_true (nat_lt (place_of j known) places) (first_of j es) (first_of j (es ++ (i, v) ∷ [])) None (λ within. turn_stays j i v es 0 (turn (grind (arith, nat_tests))))

second_stays : (known : List ℕ) (es : List Element) (i : ℕ) (v : List ℕ) (j : ℕ) → (place_of j known ≡ 0 → j ≡ i → 1 ≢ length (values_of j es)) → (noted known es).second j ≡ (noted known (es ++ (i, v) ∷ [])).second j
second_stays known es i v j turn = by_true (eqb (place_of j known) 0) (second_of j es) (second_of j (es ++ (i, v) ∷ [])) None (λ zero. turn_stays j i v es 1 (turn (grind (arith, nat_tests))))

-- an identifier that isn't known changes nothing
pub unknown_stays : (known : List ℕ) (kept : Kept) (es : List Element) (i : ℕ) (v : List ℕ) → places ≤ place_of i known → lookup known kept ≡ noted known es → lookup known kept ≡ noted known (es ++ (i, v) ∷ [])
unknown_stays known kept es i v past h = h ∙ same_lookups (noted known es) (noted known (es ++ (i, v) ∷ []))
    (λ j. first_stays known es i v j (λ within same. let there : place_of j known ≡ place_of i known = ap (λ k. place_of k known) same in absurd (omega arith)))
    (λ j. second_stays known es i v j (λ front same. let there : place_of j known ≡ place_of i known = ap (λ k. place_of k known) same in absurd (omega arith)))

-- the place of a known identifier has its first value
has_first : (known : List ℕ) (kept : Kept) (es : List Element) (i : ℕ) → place_of i known < places → lookup known kept ≡ noted known es → get_or kept.first (place_of i known) None ≡ first_of i es
has_first known kept es i within h =
    let test : nat_lt (place_of i known) places ≡ true = grind (arith, nat_tests) in
    ap (λ l. l.first i) h ∙ if_true (nat_lt (place_of i known) places) (first_of i es) None test

has_second : (known : List ℕ) (kept : Kept) (es : List Element) (i : ℕ) → place_of i known ≡ 0 → lookup known kept ≡ noted known es → kept.second ≡ second_of i es
has_second known kept es i here h =
    let test : eqb (place_of i known) 0 ≡ true = grind (arith, nat_tests) in
    sym (if_true (eqb (place_of i known) 0) kept.second None test) ∙ ap (λ l. l.second i) h ∙ if_true (eqb (place_of i known) 0) (second_of i es) None test

-- where the places of an identifier are taken, one more element with it changes nothing
pub taken_stays : (known : List ℕ) (kept : Kept) (es : List Element) (i : ℕ) (v : List ℕ) → place_of i known < places → get_or kept.first (place_of i known) None ≢ None → (place_of i known ≡ 0 → kept.second ≢ None) → lookup known kept ≡ noted known es → lookup known kept ≡ noted known (es ++ (i, v) ∷ [])
taken_stays known kept es i v within first second h = h ∙ same_lookups (noted known es) (noted known (es ++ (i, v) ∷ []))
    (λ j. first_stays known es i v j (λ also same none. first (has_first known kept es i within h ∙ sym (ap (λ k. first_of k es) same) ∙ nth_past 0 (values_of j es) (omega arith))))
    (λ j. second_stays known es i v j (λ here same one. let there : place_of i known ≡ 0 = ap (λ k. place_of k known) (sym same) ∙ here in second there (has_second known kept es i there h ∙ sym (ap (λ k. second_of k es) same) ∙ nth_past 1 (values_of j es) (omega arith))))

-- the first value of an identifier is put at its place
pub first_kept : (known : List ℕ) (kept : Kept) (es : List Element) (i : ℕ) (v : List ℕ) → place_of i known < places → place_of i known < length kept.first → get_or kept.first (place_of i known) None ≡ None → lookup known kept ≡ noted known es → lookup known (record { first = set kept.first (place_of i known) (Some v); second = kept.second }) ≡ noted known (es ++ (i, v) ∷ [])
first_kept known kept es i v within room free h = same_lookups (lookup known (record { first = set kept.first (place_of i known) (Some v); second = kept.second })) (noted known (es ++ (i, v) ∷ []))
    (λ j. by_place j (eqb_tells (place_of j known) (place_of i known)))
    (λ j. ap (λ l. l.second j) h ∙ second_stays known es i v j (λ here same one. let least = none in let count : length (values_of j es) ≡ length (values_of i es) = ap (λ k. length (values_of k es)) same in omega arith))
  where
    none : length (values_of i es) ≤ 0
    none = nth_none 0 (values_of i es) (sym (has_first known kept es i within h) ∙ free)

    by_place : (j : ℕ) → ((eqb (place_of j known) (place_of i known) ≡ true) × (place_of j known ≡ place_of i known)) ⊎ ((eqb (place_of j known) (place_of i known) ≡ false) × (place_of j known ≢ place_of i known)) → get_or (set kept.first (place_of i known) (Some v)) (place_of j known) None ≡ (noted known (es ++ (i, v) ∷ [])).first j
    by_place j (inl at) =
        let same : j ≡ i = one_place 0 j i known (omega arith) at.1 in
        let count : length (values_of j es) ≡ length (values_of i es) = ap (λ k. length (values_of k es)) same in
        let least = none in
        let test : nat_lt (place_of j known) places ≡ true = grind (arith, nat_tests) in
        ap (λ p. get_or (set kept.first (place_of i known) (Some v)) p None) at.1
        ∙ get_or-set_same kept.first (place_of i known) (Some v) None room
        ∙ turn_gets j i v es 0 same (omega arith)
        ∙ sym (if_true (nat_lt (place_of j known) places) (first_of j (es ++ (i, v) ∷ [])) None test)
    by_place j (inr at) =
        get_or-set_other kept.first (place_of i known) (place_of j known) (Some v) None at.1
        ∙ ap (λ l. l.first j) h
        ∙ first_stays known es i v j (λ also same. absurd (at.1 (ap (λ k. place_of k known) same)))

is_one : (n : ℕ) → n ≤ 1 → n ≢ 0 → 1 ≡ n
is_one zero most some = absurd (some refl)
is_one (suc n) most some = omega arith

-- the second value of the identifier at place 0 is put beside
pub second_kept : (known : List ℕ) (kept : Kept) (es : List Element) (i : ℕ) (v : List ℕ) → place_of i known ≡ 0 → get_or kept.first (place_of i known) None ≢ None → kept.second ≡ None → lookup known kept ≡ noted known es → lookup known (record { first = kept.first; second = Some v }) ≡ noted known (es ++ (i, v) ∷ [])
second_kept known kept es i v here taken free h = same_lookups (lookup known (record { first = kept.first; second = Some v })) (noted known (es ++ (i, v) ∷ []))
    (λ j. ap (λ l. l.first j) h ∙ first_stays known es i v j (λ also same none. taken (has_first known kept es i (omega arith) h ∙ sym (ap (λ k. first_of k es) same) ∙ nth_past 0 (values_of j es) (omega arith))))
    (λ j. by_true (eqb (place_of j known) 0) (Some v) (second_of j (es ++ (i, v) ∷ [])) None (λ test. gets j (grind (arith, nat_tests))))
  where
    gets : (j : ℕ) → place_of j known ≡ 0 → Some v ≡ second_of j (es ++ (i, v) ∷ [])
    gets j there =
        let same : j ≡ i = one_place 0 j i known (omega arith) (there ∙ sym here) in
        let count : length (values_of j es) ≡ length (values_of i es) = ap (λ k. length (values_of k es)) same in
        let most = nth_none 1 (values_of i es) (sym (has_second known kept es i here h) ∙ free) in
        turn_gets j i v es 1 same (is_one (length (values_of j es)) (omega arith) (λ empty. taken (has_first known kept es i (omega arith) h ∙ nth_past 0 (values_of i es) (omega arith))))

pub seen_free : (o : Option (Bor (List ℕ))) → is_some o ≡ false → value_seen o ≡ None
seen_free None free = refl
seen_free (Some v) free = cc

pub seen_taken : (o : Option (Bor (List ℕ))) → is_some o ≡ true → value_seen o ≢ None
seen_taken None taken none = cc
seen_taken (Some v) taken none = cc

no_place : (n k : ℕ) → get_or (replicate n None) k None ≡ (let none : Option (List ℕ) = None in none)
no_place zero k = refl
no_place (suc n) zero = refl
no_place (suc n) (suc k) = no_place n k

-- of no elements no value is kept
pub nothing_noted : (known : List ℕ) → lookup known (record { first = replicate places None; second = None }) ≡ noted known []
nothing_noted known = same_lookups (lookup known (record { first = replicate places None; second = None })) (noted known [])
    (λ j. no_place places (place_of j known) ∙ both (nat_lt (place_of j known) places))
    (λ j. refl)
  where
    both : (b : Bool) → None ≡ cond b (let none : Option (List ℕ) = None in none) None
    both true = refl
    both false = refl
