-- Lists that are made number by number: what one more number adds.
use Rattle.std.proofs.Common.{◌≡◌, ℕ, ◌+◌, ◌<◌, List, [], ◌∷◌, ◌++◌, length, get_or, take, map, flat_map, filter_map, Option, sym, ap, ◌∙◌, append_assoc, append-nil, length-take, arith}
use Rattle.std.specs.List.{cons_option, range_with_len, enumerate_from}
use Rattle.std.proofs.lemmas.List.{map-id, length-map, get_or-map, take_more, flat_map_more}
use Rattle.std.proofs.lemmas.List.FromFn.{map-range_with_len_more}
use Rattle.std.proofs.lemmas.Grind.{flat_map-append}
use Rattle.std.proofs.lemmas.List.Elements.{filter_map-append}

one_more : (n : ℕ) → range_with_len 0 (n + 1) ≡ range_with_len 0 n ++ n ∷ []
one_more n = simp map-id at (map-range_with_len_more (λ (k : ℕ). k) 0 n n (omega arith))

pub flat_map_next : {A : Type 0} (front : List A) (f : ℕ → List A) (n : ℕ) → (front ++ flat_map f (range_with_len 0 n)) ++ f n ≡ front ++ flat_map f (range_with_len 0 (n + 1))
flat_map_next front f n = flat_map_more f front (range_with_len 0 n) n ∙ ap (λ ns. front ++ flat_map f ns) (sym (one_more n))

pub filter_map_next : {A : Type 0} (front : List A) (h : ℕ → Option A) (n : ℕ) → (front ++ filter_map h (range_with_len 0 n)) ++ cons_option (h n) [] ≡ front ++ filter_map h (range_with_len 0 (n + 1))
filter_map_next front h n = rw (one_more n, filter_map-append h (range_with_len 0 n) (n ∷ []), append_assoc)

enumerate_next : {X : Type 0} (a j : ℕ) (xs : List X) (x : X) → a + length xs ≡ j → enumerate_from a (xs ++ x ∷ []) ≡ enumerate_from a xs ++ (j, x) ∷ []
enumerate_next a j [] x here = let same : a ≡ j = omega arith in ap (λ (k : ℕ). (k, x) ∷ []) same
enumerate_next a j (y ∷ xs) x here = ap (λ l. (a, y) ∷ l) (enumerate_next (a + 1) j xs x (omega arith))

-- the same where each element goes with its place
pub enumerated_next : {S X A : Type 0} (f : ℕ → X → List A) (ss : List S) (v : S → X) (n : ℕ) (s : S) → n < length ss → s ≡ get_or ss n s → flat_map (λ (k, x). f k x) (enumerate_from 0 (take (n + 1) (map v ss))) ≡ flat_map (λ (k, x). f k x) (enumerate_from 0 (take n (map v ss))) ++ f n (v s)
enumerated_next f ss v n s within is =
    let xs = map v ss in
    let found : get_or xs n (v s) ≡ v s = get_or-map v ss n s (v s) within ∙ ap v (sym is) in
    let more : n < length xs = omega (arith, length-map ss v) in
    let long : 0 + length (take n xs) ≡ n = omega (arith, length-take n xs) in
    rw (take_more xs n (v s) more, found, enumerate_next 0 n (take n xs) (v s) long, flat_map-append (λ (k, x). f k x) (enumerate_from 0 (take n xs)) ((n, v s) ∷ []), append-nil (f n (v s)))
