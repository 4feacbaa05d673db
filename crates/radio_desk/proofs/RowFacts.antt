-- Each attempt that a step concerns stands in the step's row: so it is enough to look at those that do.
use Rattle.std.proofs.Common.{◌≡◌, ◌⊎◌, inl, inr, ℕ, zero, suc, ◌-◌, ◌<◌, ◌≤◌, arith, take, drop, Bool, true, false, not, cond, ◌&&◌, ◌||◌, ◌==◌, List, [], ◌∷◌, ◌++◌, map, get_or, set, Option, Some, None, refl, sym, ◌∙◌, ap, subst}
use Rattle.std.specs.Prelude.{length, filter, slice_get}
use Rattle.std.specs.List.{list_any, list_all}
use Rattle.std.proofs.lemmas.Bool.{and_parts, and_from, and_left, and_right, or_cases, or_left, or_right, eqb-true, eq-eqb, both_ways, cases_Bool, cases_eq, false_from_ne_true}
use Rattle.std.proofs.lemmas.List.{length-drop, length-set, get_or-set_other, map-set, get_or-map}
use Rattle.std.proofs.lemmas.List.Folds.{list_any-append}
use Rattle.std.proofs.lemmas.Grind.{get_or-set_at}
use Rattle.std.proofs.Math.Seq.{take-length}
use Rattle.radio_book.specs.declared.undone.StepAt.{StepAt}
use Rattle.radio_book.specs.declared.following.Followed.{Followed}
use Rattle.radio_book.specs.Following.{stays, holds, after, is_over}
use Rattle.radio_book.proofs.Frame.{same_some}
use Rattle.radio_desk.specs.Followers.{call_row, cell_row, target_row, step_row, refused_row, row_of, with_place, stands, StandsIn, AreRows, IsEnough, passes, passes_at, open_places, cleaned, gone_on, gone_on_with}
use Rattle.radio_desk.proofs.FarSteps.{IsFar, is_far, far_stays, far_after, far_frees, over_stays, over_frees, over_after, after_again}

-- what follows the first of a list
pub behind_first : {X : Type 0} → (x : X) (xs : List X) → take (length (x ∷ xs) - 1) xs ≡ xs
behind_first x xs = ap (λ n. take n xs) (sym (length-drop 1 (x ∷ xs))) ∙ take-length xs

-- ONE ROW IN A LIST OF ROWS

module _ {V : Type 0} (items : V → List ℕ) (rows : List V) (r : ℕ) (v : V) (within : r < length rows) (is : v ≡ get_or rows r v) where
  pub row_read : items v ≡ row_of (map items rows) r
  row_read = ap items is ∙ sym (get_or-map items rows r v [] within)

  pub row_written : (w : V) (change : List ℕ → List ℕ) → items w ≡ change (items v) → map items (set rows r w) ≡ set (map items rows) r (change (row_of (map items rows) r))
  row_written w change gives = map-set items rows r w ∙ ap (set (map items rows) r) (gives ∙ ap change row_read)

-- PLACES

-- what all pass, the one at a place does
all_at : (test : Followed → Bool) (ps : List Followed) (i : ℕ) → list_all test ps ≡ true → passes_at test ps i ≡ true
all_at test [] i all = refl
all_at test (p ∷ ps) zero all = (and_parts (test p) (list_all test ps) all).0
all_at test (p ∷ ps) (suc i) all = all_at test ps i (and_parts (test p) (list_all test ps) all).1

all_in_row : (test : Followed → Bool) (ps : List Followed) (row : List ℕ) → list_all test ps ≡ true → list_all (λ i. passes_at test ps i) row ≡ true
all_in_row test ps [] all = refl
all_in_row test ps (i ∷ row) all = and_from (passes_at test ps i) (list_all (λ i. passes_at test ps i) row) (all_at test ps i all) (all_in_row test ps row all)

-- where one fails, it has a place
record Fails (test : Followed → Bool) (ps : List Followed) : Type 0 where
  place : ℕ
  attempt : Followed
  at : slice_get ps place ≡ Some attempt
  fails : test attempt ≡ false

one_fails : (test : Followed → Bool) (ps : List Followed) → list_all test ps ≡ false → Fails test ps
one_fails test [] fails = cc
one_fails test (p ∷ ps) fails = by (one_fails test ps) (cases_Bool (test p))
  where
    more : Fails test ps → Fails test (p ∷ ps)
    more found = record { place = suc found.place; attempt = found.attempt; at = found.at; fails = found.fails }

    by : (list_all test ps ≡ false → Fails test ps) → (test p ≡ true) ⊎ (test p ≡ false) → Fails test (p ∷ ps)
    by rest (inl is) = more (rest (sym (ap (λ q. q && list_all test ps) is) ∙ fails))
    by rest (inr is) = record { place = zero; attempt = p; at = refl; fails = is }

fails_in_row : (test : Followed → Bool) (ps : List Followed) (row : List ℕ) (i : ℕ) → passes_at test ps i ≡ false → stands i row ≡ true → list_all (λ i. passes_at test ps i) row ≡ false
fails_in_row test ps [] i fails in' = cc
fails_in_row test ps (j ∷ row) i fails in' = by (fails_in_row test ps row i fails) (or_cases (j == i) (stands i row) in')
  where
    by : (stands i row ≡ true → list_all (λ i. passes_at test ps i) row ≡ false) → ((j == i) ≡ true) ⊎ (stands i row ≡ true) → (passes_at test ps j && list_all (λ i. passes_at test ps i) row) ≡ false
    by rest (inl same) = and_left (passes_at test ps j) (list_all (λ i. passes_at test ps i) row) (ap (passes_at test ps) (eqb-true j i same) ∙ fails)
    by rest (inr more) = and_right (passes_at test ps j) (list_all (λ i. passes_at test ps i) row) (rest more)

-- where each attempt that fails stands in a row, all pass if those in the row do
pub row_is_enough : (test : Followed → Bool) (ps : List Followed) (row : List ℕ) → ((i : ℕ) (p : Followed) → slice_get ps i ≡ Some p → (test p ≡ true) ⊎ (stands i row ≡ true)) → list_all (λ i. passes_at test ps i) row ≡ list_all test ps
row_is_enough test ps row each = by (cases_Bool (list_all test ps))
  where
    found : Fails test ps → list_all (λ i. passes_at test ps i) row ≡ false
    found it = of (each it.place it.attempt it.at)
      where
        of : (test it.attempt ≡ true) ⊎ (stands it.place row ≡ true) → list_all (λ i. passes_at test ps i) row ≡ false
        of (inl holds) = absurd (both_ways (test it.attempt) it.fails holds)
        of (inr in') = fails_in_row test ps row it.place (ap (passes test) it.at ∙ it.fails) in'

    by : (list_all test ps ≡ true) ⊎ (list_all test ps ≡ false) → list_all (λ i. passes_at test ps i) row ≡ list_all test ps
    by (inl all) = all_in_row test ps row all ∙ sym all
    by (inr fails) = found (one_fails test ps fails) ∙ sym fails

-- ATTEMPTS THAT GO ON

-- what is at a place once another element was put somewhere
at_set : (ps : List Followed) (j i : ℕ) (v p : Followed) → slice_get (set ps j v) i ≡ Some p → (v ≡ p) ⊎ ((slice_get ps i ≡ Some p) × (j ≡ i → ⊥))
at_set [] j i v p at = cc
at_set (q ∷ ps) zero zero v p at = inl (same_some v p at)
at_set (q ∷ ps) zero (suc i) v p at = inr (at, λ (same : zero ≡ suc i). absurd (omega arith))
at_set (q ∷ ps) (suc j) zero v p at = inr (at, λ (same : suc j ≡ zero). absurd (omega arith))
at_set (q ∷ ps) (suc j) (suc i) v p at = by (at_set ps j i v p at)
  where
    by : (v ≡ p) ⊎ ((slice_get ps i ≡ Some p) × (j ≡ i → ⊥)) → (v ≡ p) ⊎ ((slice_get ps i ≡ Some p) × (suc j ≡ suc i → ⊥))
    by (inl is) = inl is
    by (inr other) = inr (other.0, λ (same : suc j ≡ suc i). let less : j ≡ i = omega arith in other.1 less)

module _ (s : StepAt) where
  abbrev on : Followed → Followed
  on p = after p s

  on_twice : (ps : List Followed) (i : ℕ) (p : Followed) → slice_get ps i ≡ Some p → map on (set ps i (on p)) ≡ map on ps
  on_twice [] i p at = refl
  on_twice (q ∷ ps) zero p at = ap (λ r. r ∷ map on ps) (after_again p s ∙ ap on (sym (same_some q p at)))
  on_twice (q ∷ ps) (suc i) p at = ap (λ l. on q ∷ l) (on_twice ps i p at)

  on_same : (ps : List Followed) (i : ℕ) (o : Option Followed) → slice_get ps i ≡ o → map on (gone_on_with o ps i s) ≡ map on ps
  on_same ps i None at = refl
  on_same ps i (Some p) at = on_twice ps i p at

  -- one that goes on is as all that do
  pub one_on : (ps : List Followed) (i : ℕ) → map on (gone_on ps i s) ≡ map on ps
  one_on ps i = on_same ps i (slice_get ps i) refl

  module _ (ps : List Followed) (i : ℕ) (row : List ℕ) (enough : IsEnough ps (i ∷ row) s) where
    not_here : slice_get ps i ≡ None → (j : ℕ) (q : Followed) → slice_get ps j ≡ Some q → ((i == j) ≡ true) ⊎ (stands j row ≡ true) → (on q ≡ q) ⊎ (stands j row ≡ true)
    not_here at j q at' (inl same) = absurd (none_some (sym at ∙ ap (slice_get ps) (eqb-true i j same) ∙ at'))
      where
        none_some : None ≡ Some q → ⊥
        none_some is = cc
    not_here at j q at' (inr more) = inr more

    here_not : (j : ℕ) (q : Followed) → (i ≡ j → ⊥) → ((i == j) ≡ true) ⊎ (stands j row ≡ true) → (on q ≡ q) ⊎ (stands j row ≡ true)
    here_not j q apart (inl same) = absurd (apart (eqb-true i j same))
    here_not j q apart (inr more) = inr more

    less_none : slice_get ps i ≡ None → IsEnough ps row s
    less_none at j q at' = by (enough j q at')
      where
        by : (on q ≡ q) ⊎ (stands j (i ∷ row) ≡ true) → (on q ≡ q) ⊎ (stands j row ≡ true)
        by (inl still) = inl still
        by (inr in') = not_here at j q at' (or_cases (i == j) (stands j row) in')

    less_some : (p : Followed) → IsEnough (set ps i (on p)) row s
    less_some p j q at' = by (at_set ps i j (on p) q at')
      where
        other : (i ≡ j → ⊥) → (on q ≡ q) ⊎ (stands j (i ∷ row) ≡ true) → (on q ≡ q) ⊎ (stands j row ≡ true)
        other apart (inl still) = inl still
        other apart (inr in') = here_not j q apart (or_cases (i == j) (stands j row) in')

        by : (on p ≡ q) ⊎ ((slice_get ps j ≡ Some q) × (i ≡ j → ⊥)) → (on q ≡ q) ⊎ (stands j row ≡ true)
        by (inl is) = inl (subst (λ q. on q ≡ q) is (after_again p s))
        by (inr it) = other it.1 (enough j q it.0)

    less_with : (o : Option Followed) → slice_get ps i ≡ o → IsEnough (gone_on_with o ps i s) row s
    less_with None at = less_none at
    less_with (Some p) at = less_some p

    -- the rest of the row is enough for what is left
    pub enough_left : IsEnough (gone_on ps i s) row s
    enough_left = less_with (slice_get ps i) refl

  -- where no row is left, all have gone on
  pub none_left : (ps : List Followed) → IsEnough ps [] s → map on ps ≡ ps
  none_left [] enough = refl
  none_left (p ∷ ps) enough = by (enough zero p refl) (none_left ps (λ i q at. enough (suc i) q at))
    where
      by : (on p ≡ p) ⊎ (false ≡ true) → map on ps ≡ ps → (on p ∷ map on ps) ≡ (p ∷ ps)
      by (inl still) rest = λ i. still i ∷ rest i
      by (inr never) rest = cc

  -- once the first of a row has gone on, the others are enough
  pub enough_more : (ps qs : List Followed) (row : List ℕ) (d : ℕ) → 1 ≤ length row → IsEnough ps row s → qs ≡ gone_on ps (get_or row 0 d) s → IsEnough qs (take (length row - 1) (drop 1 row)) s
  enough_more ps qs [] d some enough is = absurd (omega arith)
  enough_more ps qs (i ∷ row) d some enough is =
      subst (λ row. IsEnough qs row s) (sym (behind_first i row)) (subst (λ qs. IsEnough qs row s) (sym is) (enough_left ps i row enough))

  -- once all of a row have, all attempts have
  pub all_have : (ps all : List Followed) (row : List ℕ) → length row < 1 → IsEnough ps row s → map on ps ≡ map on all → ps ≡ map on all
  all_have ps all [] none enough same = sym (none_left ps enough) ∙ same
  all_have ps all (i ∷ row) none enough same = absurd (omega arith)

-- ROWS

module _ (rows : List (List ℕ)) (ps : List Followed) (are : AreRows rows ps) (s : StepAt) where
  -- an attempt that isn't over, and doesn't stand in the step's row, is far from the step
  out_of_row : (i : ℕ) (p : Followed) → slice_get ps i ≡ Some p → is_over p ≡ false → stands i (row_of rows (step_row s)) ≡ false → IsFar p s
  out_of_row i p at going out =
      let it = are.each i p at going in
      is_far p s
      (λ same. both_ways (stands i (row_of rows (step_row s))) out (subst (λ r. stands i (row_of rows r) ≡ true) same it.by_call))
      (λ same. both_ways (stands i (row_of rows (step_row s))) out (subst (λ r. stands i (row_of rows r) ≡ true) same it.by_cell))

  module _ (Claim : Followed → Type 0) (over_so : (p : Followed) → is_over p ≡ true → Claim p) (far_so : (p : Followed) → IsFar p s → Claim p) where
    so_or_stands : (i : ℕ) (p : Followed) → slice_get ps i ≡ Some p → Claim p ⊎ (stands i (row_of rows (step_row s)) ≡ true)
    so_or_stands i p at = by (cases_Bool (is_over p)) (cases_Bool (stands i (row_of rows (step_row s))))
      where
        by : (is_over p ≡ true) ⊎ (is_over p ≡ false) → (stands i (row_of rows (step_row s)) ≡ true) ⊎ (stands i (row_of rows (step_row s)) ≡ false) → Claim p ⊎ (stands i (row_of rows (step_row s)) ≡ true)
        by (inl over) there = inl (over_so p over)
        by (inr going) (inl in') = inr in'
        by (inr going) (inr out) = inl (far_so p (out_of_row i p at going out))

  pub all_stay_by_row : list_all (λ i. passes_at (λ p. stays p s) ps i) (row_of rows (step_row s)) ≡ list_all (λ p. stays p s) ps
  all_stay_by_row = row_is_enough (λ p. stays p s) ps (row_of rows (step_row s)) (so_or_stands (λ p. stays p s ≡ true) (λ p over. over_stays p s over) (λ p far. far_stays p s far))

  pub row_enough : IsEnough ps (row_of rows (step_row s)) s
  row_enough = so_or_stands (λ p. after p s ≡ p) (λ p over. over_after p s over) (λ p far. far_after p s far)

  module _ (r : ℕ) (busy : refused_row s ≡ Some r) where
    free_out : (i : ℕ) (p : Followed) → slice_get ps i ≡ Some p → is_over p ≡ false → stands i (row_of rows r) ≡ false → holds p s ≡ false
    free_out i p at going out = far_frees p s (λ x is same.
        both_ways (stands i (row_of rows r)) out
        (subst (λ q. stands i (row_of rows q) ≡ true) (ap (cell_row p.call) is ∙ same_some x.cell r (sym same ∙ busy)) (are.each i p at going).by_cell))

    free_or_stands : (i : ℕ) (p : Followed) → slice_get ps i ≡ Some p → (not (holds p s) ≡ true) ⊎ (stands i (row_of rows r) ≡ true)
    free_or_stands i p at = by (cases_Bool (is_over p)) (cases_Bool (stands i (row_of rows r)))
      where
        by : (is_over p ≡ true) ⊎ (is_over p ≡ false) → (stands i (row_of rows r) ≡ true) ⊎ (stands i (row_of rows r) ≡ false) → (not (holds p s) ≡ true) ⊎ (stands i (row_of rows r) ≡ true)
        by (inl over) there = inl (ap not (over_frees p s over))
        by (inr going) (inl in') = inr in'
        by (inr going) (inr out) = inl (ap not (free_out i p at going out))

    all_free_by_row : list_all (λ i. passes_at (λ p. not (holds p s)) ps i) (row_of rows r) ≡ list_all (λ p. not (holds p s)) ps
    all_free_by_row = row_is_enough (λ p. not (holds p s)) ps (row_of rows r) free_or_stands

-- not all are free just where one holds
not_all_free : (ps : List Followed) (s : StepAt) → not (list_all (λ p. not (holds p s)) ps) ≡ list_any (λ p. holds p s) ps
not_all_free [] s = refl
not_all_free (p ∷ ps) s = by (holds p s) (not_all_free ps s)
  where
    by : (q : Bool) → not (list_all (λ p. not (holds p s)) ps) ≡ list_any (λ p. holds p s) ps → not (not q && list_all (λ p. not (holds p s)) ps) ≡ (q || list_any (λ p. holds p s) ps)
    by true rest = refl
    by false rest = rest

pub held_by_row : (rows : List (List ℕ)) (ps : List Followed) → AreRows rows ps → (s : StepAt) (r : ℕ) → refused_row s ≡ Some r → not (list_all (λ i. passes_at (λ p. not (holds p s)) ps i) (row_of rows r)) ≡ list_any (λ p. holds p s) ps
held_by_row rows ps are s r busy = ap not (all_free_by_row rows ps are s r busy) ∙ not_all_free ps s

-- where a step was refused for nothing, it isn't held
pub none_held : (ps : List Followed) (s : StepAt) → refused_row s ≡ None → false ≡ list_any (λ p. holds p s) ps
none_held [] s none = refl
none_held (p ∷ ps) s none = none_held ps s none ∙ sym (ap (λ q. q || list_any (λ p. holds p s) ps) (far_frees p s (λ x is same. not_there x.cell (sym none ∙ same))))
  where
    not_there : (n : ℕ) → None ≡ Some n → ⊥
    not_there n same = cc

-- ROWS THAT CHANGE

-- a place that stands in a row still does where a row was changed that keeps it
stays_in_rows : (rows : List (List ℕ)) (r q i : ℕ) (v : List ℕ) → r < length rows → stands i (row_of rows q) ≡ true → (stands i (row_of rows r) ≡ true → stands i v ≡ true) → stands i (row_of (set rows r v) q) ≡ true
stays_in_rows rows r q i v within there keeps = by (cases_eq q r)
  where
    by : (q ≡ r) ⊎ (q ≡ r → ⊥) → stands i (row_of (set rows r v) q) ≡ true
    by (inl same) = ap (stands i) (get_or-set_at rows r q v [] same within) ∙ keeps (subst (λ n. stands i (row_of rows n) ≡ true) same there)
    by (inr other) = ap (stands i) (get_or-set_other rows r q v [] other) ∙ there

filter_keeps : (test : ℕ → Bool) (row : List ℕ) (i : ℕ) → test i ≡ true → stands i row ≡ true → stands i (filter test row) ≡ true
filter_keeps test [] i passes_it in' = cc
filter_keeps test (j ∷ row) i passes_it in' = by (filter_keeps test row i passes_it) (test j) refl (or_cases (j == i) (stands i row) in')
  where
    by : (stands i row ≡ true → stands i (filter test row) ≡ true) → (b : Bool) → test j ≡ b → ((j == i) ≡ true) ⊎ (stands i row ≡ true) → stands i (cond b (j ∷ filter test row) (filter test row)) ≡ true
    by rest true is (inl same) = or_left (j == i) (stands i (filter test row)) same
    by rest true is (inr more) = or_right (j == i) (stands i (filter test row)) (rest more)
    by rest false is (inl same) = absurd (both_ways (test j) is (ap test (eqb-true j i same) ∙ passes_it))
    by rest false is (inr more) = rest more

push_keeps : (row : List ℕ) (n i : ℕ) → stands i row ≡ true → stands i (row ++ (n ∷ [])) ≡ true
push_keeps row n i in' = list_any-append (λ j. j == i) row (n ∷ []) ∙ or_left (stands i row) (stands i (n ∷ [])) in'

push_stands : (row : List ℕ) (n : ℕ) → stands n (row ++ (n ∷ [])) ≡ true
push_stands row n = list_any-append (λ j. j == n) row (n ∷ []) ∙ or_right (stands n row) (stands n (n ∷ [])) (or_left (n == n) false (eq-eqb n n refl))

-- those that are over leave a row
pub rows_cleaned : (rows : List (List ℕ)) (ps : List Followed) (r : ℕ) → AreRows rows ps → r < 1280 → AreRows (cleaned rows r ps) ps
rows_cleaned rows ps r are within = record { count = length-set rows r v ∙ are.count; each = each }
  where
    v : List ℕ
    v = open_places ps (row_of rows r)

    each : (i : ℕ) (p : Followed) → slice_get ps i ≡ Some p → is_over p ≡ false → StandsIn (cleaned rows r ps) i p
    each i p at going = record {
      by_call = stays_in_rows rows r (call_row p.call) i (open_places ps (row_of rows r)) inside it.by_call keeps;
      by_cell = stays_in_rows rows r (target_row p) i (open_places ps (row_of rows r)) inside it.by_cell keeps;
    }
      where
        it : StandsIn rows i p
        it = are.each i p at going

        inside : r < length rows
        inside = subst (λ n. r < n) (sym are.count) within

        keeps : stands i (row_of rows r) ≡ true → stands i (open_places ps (row_of rows r)) ≡ true
        keeps = filter_keeps (λ i. passes_at (λ p. not (is_over p)) ps i) (row_of rows r) i (ap (passes (λ p. not (is_over p))) at ∙ ap not going)

-- attempts that go on stand where they stood
pub rows_on : (rows : List (List ℕ)) (ps : List Followed) (s : StepAt) → AreRows rows ps → AreRows rows (map (λ p. after p s) ps)
rows_on rows ps s are = record { count = are.count; each = λ i q at going. of i q going (before ps i q at) }
  where
    before : (ps : List Followed) (i : ℕ) (q : Followed) → slice_get (map (λ p. after p s) ps) i ≡ Some q → (p : Followed) × (slice_get ps i ≡ Some p) × (after p s ≡ q)
    before [] i q at = cc
    before (p ∷ ps) zero q at = (p, refl, same_some (after p s) q at)
    before (p ∷ ps) (suc i) q at = before ps i q at

    of : (i : ℕ) (q : Followed) → is_over q ≡ false → (p : Followed) × (slice_get ps i ≡ Some p) × (after p s ≡ q) → StandsIn rows i q
    of i q going was = subst (StandsIn rows i) was.2 (record { by_call = it.by_call; by_cell = it.by_cell })
      where
        was_going : is_over was.0 ≡ false
        was_going = false_from_ne_true (is_over was.0) (λ over. both_ways (is_over q) going (ap is_over (sym was.2 ∙ over_after was.0 s over) ∙ over))

        it : StandsIn rows i was.0
        it = are.each i was.0 was.1 was_going

at_push : (ps : List Followed) (o p : Followed) (i : ℕ) → slice_get (ps ++ (o ∷ [])) i ≡ Some p → (slice_get ps i ≡ Some p) ⊎ ((i ≡ length ps) × (o ≡ p))
at_push [] o p zero at = inr (refl, same_some o p at)
at_push [] o p (suc i) at = cc
at_push (q ∷ ps) o p zero at = inl at
at_push (q ∷ ps) o p (suc i) at = by (at_push ps o p i at)
  where
    by : (slice_get ps i ≡ Some p) ⊎ ((i ≡ length ps) × (o ≡ p)) → (slice_get ps i ≡ Some p) ⊎ ((suc i ≡ suc (length ps)) × (o ≡ p))
    by (inl there) = inl there
    by (inr last) = inr (ap (λ n. suc n) last.0, last.1)

-- a place that is put into two rows
module _ (rows : List (List ℕ)) (n r q : ℕ) (r_in : r < length rows) (q_in : q < length (with_place rows r n)) where
  abbrev both : List (List ℕ)
  both = with_place (with_place rows r n) q n

  still_one : (k i : ℕ) → stands i (row_of rows k) ≡ true → stands i (row_of (with_place rows r n) k) ≡ true
  still_one k i there = stays_in_rows rows r k i (row_of rows r ++ (n ∷ [])) r_in there (push_keeps (row_of rows r) n i)

  still_other : (k i : ℕ) → stands i (row_of (with_place rows r n) k) ≡ true → stands i (row_of both k) ≡ true
  still_other k i there = stays_in_rows (with_place rows r n) q k i (row_of (with_place rows r n) q ++ (n ∷ [])) q_in there (push_keeps (row_of (with_place rows r n) q) n i)

  now_in : stands n (row_of both q) ≡ true
  now_in = ap (stands n) (get_or-set_at (with_place rows r n) q q (row_of (with_place rows r n) q ++ (n ∷ [])) [] refl q_in) ∙ push_stands (row_of (with_place rows r n) q) n

  was_in : stands n (row_of both r) ≡ true
  was_in = still_other r n (ap (stands n) (get_or-set_at rows r r (row_of rows r ++ (n ∷ [])) [] refl r_in) ∙ push_stands (row_of rows r) n)

-- rows with one attempt more
module _ (rows : List (List ℕ)) (ps : List Followed) (o : Followed) (are : AreRows rows ps) (call_within : call_row o.call < 1280) (cell_within : target_row o < 1280) where
  abbrev n : ℕ
  n = length ps

  abbrev added : List (List ℕ)
  added = with_place (with_place rows (call_row o.call) n) (target_row o) n

  call_in : call_row o.call < length rows
  call_in = subst (λ m. call_row o.call < m) (sym are.count) call_within

  count_one : length (with_place rows (call_row o.call) n) ≡ 1280
  count_one = length-set rows (call_row o.call) (row_of rows (call_row o.call) ++ (n ∷ [])) ∙ are.count

  cell_in : target_row o < length (with_place rows (call_row o.call) n)
  cell_in = subst (λ m. target_row o < m) (sym count_one) cell_within

  still_in : (k i : ℕ) → stands i (row_of rows k) ≡ true → stands i (row_of added k) ≡ true
  still_in k i there = still_other rows n (call_row o.call) (target_row o) call_in cell_in k i (still_one rows n (call_row o.call) (target_row o) call_in cell_in k i there)

  it_stands : StandsIn added n o
  it_stands = record {
    by_call = was_in rows n (call_row o.call) (target_row o) call_in cell_in;
    by_cell = now_in rows n (call_row o.call) (target_row o) call_in cell_in;
  }

  each_stands : (i : ℕ) (p : Followed) → slice_get (ps ++ (o ∷ [])) i ≡ Some p → is_over p ≡ false → StandsIn added i p
  each_stands i p at going = by (at_push ps o p i at)
    where
      by : (slice_get ps i ≡ Some p) ⊎ ((i ≡ n) × (o ≡ p)) → StandsIn added i p
      by (inl there) = let it = are.each i p there going in record { by_call = still_in (call_row p.call) i it.by_call; by_cell = still_in (target_row p) i it.by_cell }
      by (inr last) = subst (λ p. StandsIn added i p) last.1 (subst (λ i. StandsIn added i o) (sym last.0) it_stands)

  pub rows_added : AreRows added (ps ++ (o ∷ []))
  rows_added = record {
    count = length-set (with_place rows (call_row o.call) n) (target_row o) (row_of (with_place rows (call_row o.call) n) (target_row o) ++ (n ∷ [])) ∙ count_one;
    each = each_stands;
  }
