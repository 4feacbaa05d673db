-- The free channels of a cell as a set: what it has, and how many.
use Rattle.std.proofs.Common.{◌≡◌, ◌↔◌, ◌&&◌, ◌||◌, ℕ, zero, suc, ◌+◌, ◌<◌, ◌/◌, ◌%◌, Bool, true, false, cond, List, [], ◌∷◌, map as map_list, count_by, refl, sym, ap, ◌∙◌, subst, inl, inr, zero-add, arith}
use Rattle.std.specs.declared.cmp.Ordering.{Ordering}
use Rattle.std.specs.List.{filter, list_any, range_with_len, IsDistinct, AllByRecursion}
use Rattle.std.specs.Cmp.{IsTotalOrder, tied_itself}
use Rattle.std.specs.Ordering.{eq_by_cmp, is_eq}
use Rattle.std.specs.FinSet.{FinSet}
use Rattle.std.specs.FinSet as set
use Rattle.std.proofs.lemmas.Bool.{cases_Bool, and_parts, and_from, or_cases}
use Rattle.std.proofs.lemmas.List.Sums.{sum_by-cons}
use Rattle.std.proofs.lemmas.List.Folds.{list_any_at}
use Rattle.std.proofs.lemmas.List.FromFn.{get_or-map-range_with_len, length-map-range_with_len}
use Rattle.std.proofs.lemmas.Map.Keys.{IsDistinct-from_apart}
use Rattle.std.proofs.lemmas.Map.Views.{any-filter_same}
use Rattle.channel_fsm.specs.declared.ChanId.{ChanId}
use Rattle.timeslots.specs.Parts.{sub_number}
use Rattle.cell_table.specs.Site.{TrafficLiesWithin}
use Rattle.radio_tables.specs.Keys.{chan_cmp}
use Rattle.radio_tables.specs.State.{State}
use Rattle.radio_tables.specs.Choice.{IsFreeIn, IsFreeCount}
use Rattle.radio_tables.specs.Places.{sub_at, is_free_traffic, channels_of, free_in}
use Rattle.radio_tables.proofs.MapFacts.{tied_keys, different_keys}
use Rattle.radio_tables.proofs.KeyFacts.{chan_total, chan_exact}
use Rattle.radio_tables.proofs.Chosen.{channel_at, by_places, within, place_of, place_small, stands_there, is_free_in, passes_in}

module _ {K : Type 0} {R : K → K → Ordering} (o : IsTotalOrder R) (p : K → Bool) where
  none_kept : (e : K → Bool) (xs : List K) → AllByRecursion (λ y. e y ≡ false) xs → list_any e (filter p xs) ≡ false
  none_kept e [] h = refl
  none_kept e (x ∷ xs) h =
      elim (cases_Bool (p x)) [
        | inl kept ↦ ap (λ b. list_any e (cond b (x ∷ filter p xs) (filter p xs))) kept ∙ ap (λ b. b || list_any e (filter p xs)) h.0 ∙ none_kept e xs h.1
        | inr dropped ↦ ap (λ b. list_any e (cond b (x ∷ filter p xs) (filter p xs))) dropped ∙ none_kept e xs h.1
      ]

  -- the set of those that pass has as many as are counted, where none stands twice
  sized : (xs : List K) → IsDistinct (eq_by_cmp R) xs → set.len (set.from_list {R = R} (filter p xs)) ≡ count_by p xs
  unfolding IsDistinct
  sized [] h = set.len-empty R
  sized (x ∷ xs) h =
      let kept : FinSet R = set.from_list {R = R} (filter p xs) in
      let rest = sized xs h.1 in
      let new : set.contains kept x ≡ false = set.contains-from_list o (filter p xs) x ∙ none_kept (eq_by_cmp R x) xs h.0 in
      let added : set.len (set.insert kept x) ≡ set.len kept + 1 = set.len-insert o kept x ∙ ap (λ b. cond b (set.len kept) (set.len kept + 1)) new in
      let counted = sum_by-cons (λ y. cond (p y) 1 0) x xs in
      elim (cases_Bool (p x)) [
        | inl passes ↦
            let size : set.len (set.from_list {R = R} (filter p (x ∷ xs))) ≡ set.len kept + 1 = ap (λ b. set.len (set.from_list {R = R} (cond b (x ∷ filter p xs) (filter p xs)))) passes ∙ added in
            let count : count_by p (x ∷ xs) ≡ 1 + count_by p xs = counted ∙ ap (λ b. cond b 1 0 + count_by p xs) passes in
            omega (arith, size, count, rest)
        | inr fails ↦
            let size : set.len (set.from_list {R = R} (filter p (x ∷ xs))) ≡ set.len kept = ap (λ b. set.len (set.from_list {R = R} (cond b (x ∷ filter p xs) (filter p xs)))) fails in
            let count : count_by p (x ∷ xs) ≡ 0 + count_by p xs = counted ∙ ap (λ b. cond b 1 0 + count_by p xs) fails in
            omega (arith, size, count, rest)
      ]

-- no channel of a cell has two places
each_once : (cell : ℕ) → IsDistinct (eq_by_cmp chan_cmp) (channels_of cell)
each_once cell =
    let xs = map_list (channel_at cell) (range_with_len 0 96) in
    let size = length-map-range_with_len (channel_at cell) 0 96 in
    subst (IsDistinct (eq_by_cmp chan_cmp)) (sym (by_places cell)) (IsDistinct-from_apart (eq_by_cmp chan_cmp) xs (λ i j d less inside.
    let below : j < 96 = omega (arith, inside, size) in
    let first : i < 96 = omega (arith, less, below) in
    let at_i = get_or-map-range_with_len (channel_at cell) 0 96 i i d first (zero-add i) in
    let at_j = get_or-map-range_with_len (channel_at cell) 0 96 j j d below (zero-add j) in
    (λ k. eq_by_cmp chan_cmp (at_i k) (at_j k))
    ∙ different_keys chan_cmp chan_exact (channel_at cell i) (channel_at cell j) (λ same.
    let trx : i / 24 ≡ j / 24 = ap (λ x. x.trx) same in
    let tn : i / 3 % 8 ≡ j / 3 % 8 = ap (λ x. x.tn) same in
    let sub : i % 3 ≡ j % 3 = sym (number_at i) ∙ ap (λ (x : ChanId). sub_number x.sub) same ∙ number_at j in
    absurd (omega (arith, less, trx, tn, sub)))))
  where
    number_by : (r : ℕ) → r < 3 → sub_number (sub_at r) ≡ r
    number_by zero h = refl
    number_by (suc zero) h = refl
    number_by (suc (suc zero)) h = refl
    number_by (suc (suc (suc r))) h = absurd (omega arith)

    number_at : (n : ℕ) → sub_number (sub_at (n % 3)) ≡ n % 3
    number_at n = number_by (n % 3) (omega arith)

in_cell : (cell : ℕ) (ns : List ℕ) (x : ChanId) → list_any (eq_by_cmp chan_cmp x) (map_list (channel_at cell) ns) ≡ true → x.cell ≡ cell
in_cell cell [] x e = cc
in_cell cell (n ∷ ns) x e =
    elim (or_cases (eq_by_cmp chan_cmp x (channel_at cell n)) (list_any (eq_by_cmp chan_cmp x) (map_list (channel_at cell) ns)) e) [
      | inl here ↦ ap (λ y. y.cell) (tied_keys chan_cmp chan_exact x (channel_at cell n) here)
      | inr later ↦ in_cell cell ns x later
    ]

module _ (b : State) (cell : ℕ) where
  abbrev free_set : FinSet chan_cmp
  free_set = set.from_list {R = chan_cmp} (filter (is_free_traffic b) (channels_of cell))

  told : (x : ChanId) → set.contains free_set x ≡ (is_free_traffic b x && list_any (eq_by_cmp chan_cmp x) (channels_of cell))
  told x =
      set.contains-from_list chan_total (filter (is_free_traffic b) (channels_of cell)) x
      ∙ any-filter_same (eq_by_cmp chan_cmp x) (is_free_traffic b) (is_free_traffic b x) (λ k t. ap (is_free_traffic b) (sym (tied_keys chan_cmp chan_exact x k t))) (channels_of cell)

  -- it has those that can be chosen
  members : TrafficLiesWithin b.site → (x : ChanId) → (set.contains free_set x ≡ true) ↔ IsFreeIn b cell x
  members site x = (
    λ e.
        let parts = and_parts (is_free_traffic b x) (list_any (eq_by_cmp chan_cmp x) (channels_of cell)) (sym (told x) ∙ e) in
        is_free_in b cell x (in_cell cell (range_with_len 0 96) x (ap (list_any (eq_by_cmp chan_cmp x)) (sym (by_places cell)) ∙ parts.1)) parts.0,
    λ free.
        let limits = site x free.is_traffic in
        told x ∙ and_from _ _ (passes_in b cell x free)
        (list_any_at (eq_by_cmp chan_cmp x) (channels_of cell) (place_of x) x (within cell (place_of x) (place_small x limits))
        (ap (eq_by_cmp chan_cmp x) (stands_there cell x free.in_cell limits) ∙ ap is_eq (tied_itself chan_total x))),
  )

  -- a count over the places of the cell is the size of the set
  pub free_counted : TrafficLiesWithin b.site → IsFreeCount b cell (free_in b cell)
  free_counted site = record { free = free_set; members = members site; size = sym (sized chan_total (is_free_traffic b) (channels_of cell) (each_once cell)) }
