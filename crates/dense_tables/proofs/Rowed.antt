-- The calls of references, by their places in the rows.
use Rattle.std.proofs.Common.{◌≡◌, ◌≢◌, inl, inr, ◌+◌, ◌*◌, ◌/◌, ◌%◌, ◌<◌, ◌≤◌, ℕ, true, cond, List, length, get_or, set, map as map_list, Option, Some, None, refl, sym, ap, ◌∙◌, arith}
use Rattle.std.specs.List.{list_any}
use Rattle.std.specs.Ordering.{eq_by_cmp}
use Rattle.std.specs.FinMap as map
use Rattle.std.proofs.lemmas.Bool.{lt-ltb, le-ltb, cases_lt}
use Rattle.std.proofs.lemmas.List.{get_or-set_same, get_or-set_other, length-map, get_or_past, ext_get_or}
use Rattle.dense_tables.specs.declared.references.Reference.{Reference}
use Rattle.dense_tables.specs.Keys.{reference_cmp}
use Rattle.dense_tables.specs.Maps.{put, Covers}
use Rattle.dense_tables.specs.Calls.{below}
use Rattle.dense_tables.specs.References.{place_of, reference_at, user_at, users_of}
use Rattle.dense_tables.proofs.KeyFacts.{reference_total, reference_exact}
use Rattle.dense_tables.proofs.MapFacts.{put_again, len_put, one_if_some}
use Rattle.dense_tables.proofs.Listed.{get_listed, listed_put, listed_empty, len_listed, among_made, length_below}

-- a number of a row leads to its place, and back
pub placed_again : (r : Reference) → r.number < 256 → reference_at (place_of r) ≡ r
placed_again r small =
    let cell : (r.cell * 256 + r.number) / 256 ≡ r.cell = omega arith in
    let number : (r.cell * 256 + r.number) % 256 ≡ r.number = omega arith in
    λ i. record { cell = cell i; number = number i }

user_of_row : (users : List (Option ℕ)) (r : Reference) → r.number < 256 → user_at users r ≡ get_or users (place_of r) None
user_of_row users r small = ap (λ b. cond b (get_or users (place_of r) None) None) (lt-ltb r.number 256 small)

user_of_none : (users : List (Option ℕ)) (r : Reference) → 256 ≤ r.number → user_at users r ≡ None
user_of_none users r large = ap (λ b. cond b (get_or users (place_of r) None) None) (le-ltb r.number 256 large)

among : (users : List (Option ℕ)) (r : Reference) → r.number < 256 → place_of r < length users → list_any (eq_by_cmp reference_cmp r) (map_list reference_at (below (length users))) ≡ true
among users r small within =
    ap (λ s. list_any (eq_by_cmp reference_cmp s) (map_list reference_at (below (length users)))) (sym (placed_again r small))
    ∙ among_made reference_total reference_at (length users) (place_of r) within

pub covers : (users : List (Option ℕ)) → Covers reference_cmp (map_list reference_at (below (length users))) (user_at users)
covers users r none =
    elim (cases_lt r.number 256) [
      | inl small ↦ elim (cases_lt (place_of r) (length users)) [
        | inl within ↦ let there = among users r small within in cc
        | inr past ↦ user_of_row users r small ∙ get_or_past users (place_of r) None past
      ]
      | inr large ↦ user_of_none users r large
    ]

pub get_user : (users : List (Option ℕ)) (r : Reference) → map.get (users_of users) r ≡ user_at users r
get_user users = get_listed reference_total reference_exact (map_list reference_at (below (length users))) (user_at users) (covers users)

pub few_users : (users : List (Option ℕ)) → map.len (users_of users) ≤ length users
few_users users =
    let most = len_listed reference_total (map_list reference_at (below (length users))) (user_at users) in
    omega (arith, most, length-map (below (length users)) reference_at, length_below (length users))

-- references of rows at one place are one
one_reference : (r q : Reference) → r.number < 256 → q.number < 256 → place_of q ≡ place_of r → q ≡ r
one_reference r q small least same = sym (placed_again q least) ∙ ap reference_at same ∙ placed_again r small

other_stays : (users : List (Option ℕ)) (r q : Reference) (w : Option ℕ) → r.number < 256 → q ≢ r → user_at (set users (place_of r) w) q ≡ user_at users q
other_stays users r q w small other =
    elim (cases_lt q.number 256) [
      | inl least ↦
          user_of_row (set users (place_of r) w) q least
          ∙ get_or-set_other users (place_of r) (place_of q) w None (λ same. other (one_reference r q small least same))
          ∙ sym (user_of_row users q least)
      | inr large ↦ user_of_none (set users (place_of r) w) q large ∙ sym (user_of_none users q large)
    ]

-- another user at a reference's place
pub user_written : (users : List (Option ℕ)) (r : Reference) (w : Option ℕ) → r.number < 256 → place_of r < length users → users_of (set users (place_of r) w) ≡ put (users_of users) r w
user_written users r w small within =
    listed_put reference_total reference_exact (map_list reference_at (below (length users))) (map_list reference_at (below (length (set users (place_of r) w)))) (user_at users) (user_at (set users (place_of r) w))
    (covers users) (covers (set users (place_of r) w)) r (λ q other. other_stays users r q w small other)
    ∙ ap (put (users_of users) r) (user_of_row (set users (place_of r) w) r small ∙ get_or-set_same users (place_of r) w None within)

-- how many are in use, where a reference gets another user
pub count_written : (users : List (Option ℕ)) (r : Reference) (w : Option ℕ) → r.number < 256 → place_of r < length users → map.len (users_of (set users (place_of r) w)) + one_if_some (get_or users (place_of r) None) ≡ map.len (users_of users) + one_if_some w
count_written users r w small within =
    (λ i. map.len (user_written users r w small within i) + one_if_some (sym (get_user users r ∙ user_of_row users r small) i))
    ∙ len_put reference_total (users_of users) r w

-- a reference of no cell has no user, and stays so
pub user_absent : (users : List (Option ℕ)) (r : Reference) → length users ≤ place_of r → put (users_of users) r None ≡ users_of users
user_absent users r past =
    put_again reference_total reference_exact (users_of users) r None (get_user users r ∙ (
    elim (cases_lt r.number 256) [
      | inl small ↦ user_of_row users r small ∙ get_or_past users (place_of r) None past
      | inr large ↦ user_of_none users r large
    ]))

pub no_users : (users : List (Option ℕ)) → ((place : ℕ) → get_or users place None ≡ None) → users_of users ≡ map.empty
no_users users none =
    listed_empty reference_total reference_exact (map_list reference_at (below (length users))) (user_at users) (λ r.
    elim (cases_lt r.number 256) [
      | inl small ↦ user_of_row users r small ∙ none (place_of r)
      | inr large ↦ user_of_none users r large
    ])

place_read : (users : List (Option ℕ)) (i : ℕ) → map.get (users_of users) (reference_at i) ≡ get_or users i None
place_read users i =
    let small : i % 256 < 256 = omega arith in
    let place : i / 256 * 256 + i % 256 ≡ i = omega arith in
    get_user users (reference_at i) ∙ user_of_row users (reference_at i) small ∙ ap (λ n. get_or users n None) place

-- rows that say the same are the same
pub users_told : (one other : List (Option ℕ)) → length one ≡ length other → users_of one ≡ users_of other → one ≡ other
users_told one other long same =
    ext_get_or None one other long (λ i within. sym (place_read one i) ∙ ap (λ m. map.get m (reference_at i)) same ∙ place_read other i)

-- a user is given to references of the rows alone
pub no_row : (o : Option ℕ) (cell cells number place : ℕ) → (o ≢ None → cell < cells) → place ≡ cell * 256 + number → cells * 256 ≤ place → number < 256 → o ≡ None
no_row None cell cells number place rowed at past small = refl
no_row (Some v) cell cells number place rowed at past small = let row = rowed (λ e. cc) in absurd (omega arith)
