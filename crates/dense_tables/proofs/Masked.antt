-- What the masks say of a cell's channels: which can be chosen, and how many.
use Rattle.std.proofs.Common.{◌≡◌, ◌≢◌, ◌&&◌, ◌++◌, ◌⊎◌, ◌+◌, ◌*◌, ◌<◌, ◌≤◌, nat_lt, ℕ, zero, suc, Bool, true, false, cond, List, [], ◌∷◌, length, get_or, flat_map, count_by, Option, Some, None, IfSome, IfNone, is_some, is_none, refl, sym, ap, ◌∙◌, subst, zero-add, inl, inr, not, arith}
use Rattle.std.specs.List.{range_with_len, AllByRecursion}
use Rattle.std.proofs.lemmas.Bool.{and_parts, and_from, and_left, false≢true, false_from_ne_true}
use Rattle.std.proofs.lemmas.Bool.Decides.{nat_tests}
use Rattle.std.proofs.lemmas.List.Concat.{flat_map-cons}
use Rattle.std.proofs.lemmas.List.Sums.{sum_by-cons, sum_by-append}
use Rattle.timeslots.specs.declared.Rate.{Rate}
use Rattle.timeslots.specs.declared.Rate.TheVariants as rate
use Rattle.timeslots.specs.declared.Sub.{Sub}
use Rattle.timeslots.specs.declared.Sub.TheVariants.{Full, Half0, Half1}
use Rattle.channel_fsm.specs.declared.ChanId.{ChanId}
use Rattle.channel_fsm.specs.declared.ChanState.{ChanState}
use Rattle.timeslots.specs.Parts.{sub_number, rate_of}
use Rattle.channel_fsm.specs.Slots.{is_used, first_in_way}
use Rattle.channel_fsm.specs.Masks.{has, timeslots}
use Rattle.cell_table.specs.Site.{SiteView, TrafficLiesWithin, is_traffic, parts_of, trx_channels}
use Rattle.dense_tables.specs.Channels.{Channels, or_free, state_of, IsFreeIn, IsFreeAt, NoneFreeAt, is_free_traffic, channels_of, free_in, state_at, states_of, place_at, state_by, is_free_by, is_part_free, mask_at, AreMasks, IsMasked, IsMaskedAt, IsMaskedWith, IsFirstWith, IsFirstAt, lower_of, IsNoLater}
use Rattle.dense_tables.proofs.Stated.{get_state}

none_there : {X : Type 0} (o : Option X) → is_none o ≡ true → o ≡ None
none_there None e = refl
none_there (Some v) e = absurd (false≢true e)

-- what is in the way, by the states of a table
same_way : (site : SiteView) (states : List ChanState) (x : ChanId)
    → first_in_way (state_of (record { site = site; states = states_of site states })) x ≡ first_in_way (λ y. or_free (state_at site states y)) x
same_way site states x = λ i. first_in_way (λ y. or_free (get_state site states y i)) x

-- what the masks of a table have is what can be chosen there
module _ (site : SiteView) (states : List ChanState) (masks : List ℕ) (are : AreMasks site states masks) (cell : ℕ) where
  masked_free : (x : ChanId) → IsMasked masks cell x → IsFreeIn (record { site = site; states = states_of site states }) cell x
  masked_free x masked =
      let parts = and_parts (is_traffic site x) (is_none (first_in_way (λ y. or_free (state_at site states y)) x)) (sym (are x masked.limits) ∙ masked.there) in
      record { in_cell = masked.in_cell; traffic = parts.0; is_free = same_way site states x ∙ none_there (first_in_way (λ y. or_free (state_at site states y)) x) parts.1 }

  free_masked : TrafficLiesWithin site → (x : ChanId) → IsFreeIn (record { site = site; states = states_of site states }) cell x → IsMasked masks cell x
  free_masked lies x free =
      let limits = lies x free.traffic in
      record { in_cell = free.in_cell; limits = limits; there = are x limits ∙ and_from _ _ free.traffic (ap is_none (sym (same_way site states x) ∙ free.is_free)) }

  free_masked_at : TrafficLiesWithin site → (rate : Rate) (x : ChanId) → IsFreeAt (record { site = site; states = states_of site states }) cell rate x → IsMaskedAt masks cell rate x
  free_masked_at lies rate x free = record { masked = free_masked lies x free.free; rate = free.rate }

  -- a masked channel that was found, if one was, is free at the rate
  pub found_free : (rate : Rate) (o : Option ChanId) → IfSome o (λ x. IsMaskedAt masks cell rate x) → IfSome o (λ x. IsFreeAt (record { site = site; states = states_of site states }) cell rate x)
  found_free rate None masked = tt
  found_free rate (Some x) masked = record { free = masked_free x masked.masked; rate = masked.rate }

  pub first_free : TrafficLiesWithin site → (rate : Rate) (o : Option ChanId) → IfSome o (λ x. (y : ChanId) → IsMaskedAt masks cell rate y → IsNoLater x y)
      → IfSome o (λ x. (y : ChanId) → IsFreeAt (record { site = site; states = states_of site states }) cell rate y → IsNoLater x y)
  first_free lies rate None first = tt
  first_free lies rate (Some x) first = λ y free. first y (free_masked_at lies rate y free)

  pub none_free : TrafficLiesWithin site → (rate : Rate) (o : Option ChanId) → IfNone o ((y : ChanId) → IsMaskedAt masks cell rate y → ⊥) → IfNone o (NoneFreeAt (record { site = site; states = states_of site states }) cell rate)
  none_free lies rate None none = λ y free. none y (free_masked_at lies rate y free)
  none_free lies rate (Some x) none = tt

-- a cell that no site can have has no channel to be chosen
pub none_beyond : (c : Channels) (cell : ℕ) (rate : Rate) → TrafficLiesWithin c.site → 64 ≤ cell → NoneFreeAt c cell rate
none_beyond c cell rate lies beyond x free =
    let limits = lies x free.free.traffic in
    let here = free.free.in_cell in
    let less = limits.cell in
    omega arith

-- ---- one timeslot

three_free : {X : Type 0} (a b c : Bool) (p q r : X) → (not a && (not b && not c)) ≡ is_none (cond a (Some p) (cond b (Some q) (cond c (Some r) None)))
three_free true b c p q r = refl
three_free false true c p q r = refl
three_free false false true p q r = refl
three_free false false false p q r = refl

two_free : {X : Type 0} (a b : Bool) (p q : X) → (not a && not b) ≡ is_none (cond a (Some p) (cond b (Some q) None))
two_free true b p q = refl
two_free false true p q = refl
two_free false false p q = refl

-- whether nothing is in the way of a part of a timeslot is told by which of the three are in use
pub part_free : (states : ChanId → ChanState) (x : ChanId) (s : Sub)
    → is_part_free (is_used (states (record x { sub = Full }))) (is_used (states (record x { sub = Half0 }))) (is_used (states (record x { sub = Half1 }))) s ≡ is_none (first_in_way states (record x { sub = s }))
part_free states x Full = three_free _ _ _ (record x { sub = Full }) (record x { sub = Half0 }) (record x { sub = Half1 })
part_free states x Half0 = two_free _ _ (record x { sub = Full }) (record x { sub = Half0 })
part_free states x Half1 = two_free _ _ (record x { sub = Full }) (record x { sub = Half1 })

pub other_part : (x : ChanId) (s t : Sub) → (sub_number s ≡ sub_number t → ⊥) → ◌≢◌ {A = ChanId} (record x { sub = s }) (record x { sub = t })
other_part x s t apart e = apart (ap (λ (y : ChanId). sub_number y.sub) e)

-- what is noted of a part, by which of the three are in use
pub noted : (places : List (Option ℕ)) (states : List ChanState) (x : ChanId) (whole lower upper free : Bool) (s : Sub)
    → whole ≡ is_used (state_by places states (record x { sub = Full })) → lower ≡ is_used (state_by places states (record x { sub = Half0 })) → upper ≡ is_used (state_by places states (record x { sub = Half1 }))
    → free ≡ (is_some (place_at places (record x { sub = s })) && is_part_free whole lower upper s) → free ≡ is_free_by places states (record x { sub = s })
noted places states x whole lower upper free s is is0 is1 told =
    told ∙ (λ i. is_some (place_at places (record x { sub = s })) && is_part_free (is i) (is0 i) (is1 i) s)
    ∙ ap (λ b. is_some (place_at places (record x { sub = s })) && b) (part_free (state_by places states) x s)

-- ---- the lowest

-- two channels of a TRX with one part of a timeslot differ by the timeslot alone
pub in_mask : (masks : List ℕ) (cell trx : ℕ) (sub : Sub) (y : ChanId) → IsMaskedWith masks cell trx sub y → has (get_or masks ((cell * 4 + trx) * 3 + sub_number sub) 0) y.tn ≡ true
in_mask masks cell trx sub y with' =
    (λ i. has (get_or masks ((sym with'.masked.in_cell i * 4 + sym with'.trx i) * 3 + sub_number (sym with'.sub i)) 0) y.tn) ∙ with'.masked.there

-- what a mask has lowest is the first with its part of a timeslot
pub first_with : (masks : List ℕ) (cell trx : ℕ) (sub : Sub) (tn : ℕ) → cell < 64 → trx < 4 → tn ≤ 7 → has (get_or masks ((cell * 4 + trx) * 3 + sub_number sub) 0) tn ≡ true
    → ((n : ℕ) → n < tn → has (get_or masks ((cell * 4 + trx) * 3 + sub_number sub) 0) n ≡ false)
    → IsFirstWith masks cell trx sub (record { cell = cell; trx = trx; tn = tn; sub = sub })
first_with masks cell trx sub tn small few most there lowest = record {
  there = record { masked = record { in_cell = refl; limits = record { cell = small; trx = few; timeslot = omega (arith, most) }; there = there }; trx = refl; sub = refl };
  first = λ y with'. elim (order y.tn tn) [
    | inl before ↦ absurd (false≢true (sym (lowest y.tn before) ∙ in_mask masks cell trx sub y with'))
    | inr after ↦ after
  ];
}
  where
    order : (n m : ℕ) → (n < m) ⊎ (m ≤ n)
    order n m = grind arith

pub none_with : (masks : List ℕ) (cell trx : ℕ) (sub : Sub) → ((n : ℕ) → has (get_or masks ((cell * 4 + trx) * 3 + sub_number sub) 0) n ≡ false) → (y : ChanId) → IsMaskedWith masks cell trx sub y → ⊥
none_with masks cell trx sub none y with' = false≢true (sym (none y.tn) ∙ in_mask masks cell trx sub y with')

whole_at : (s : Sub) → rate_of s ≡ rate.Full → s ≡ Full
whole_at Full e = refl
whole_at Half0 e = absurd cc
whole_at Half1 e = absurd cc

half_at : (s : Sub) → rate_of s ≡ rate.Half → (s ≡ Half0) ⊎ (s ≡ Half1)
half_at Full e = absurd cc
half_at Half0 e = inl refl
half_at Half1 e = inr refl

module _ (masks : List ℕ) (cell trx : ℕ) where
  -- the first of whole timeslots
  pub first_whole : (o : Option ChanId) → IfSome o (λ x. IsFirstWith masks cell trx Full x) → IfSome o (λ x. IsFirstAt masks cell trx rate.Full x)
  first_whole None first = tt
  first_whole (Some x) first = record {
    there = record { masked = first.there.masked; rate = ap rate_of first.there.sub };
    trx = first.there.trx;
    first = λ y at there.
        let whole = whole_at y.sub at.rate in
        let no_later = first.first y (record { masked = at.masked; trx = there; sub = whole }) in
        let numbers : sub_number x.sub ≡ sub_number y.sub = ap sub_number (first.there.sub ∙ sym whole) in
        omega (arith, no_later, numbers);
  }

  pub none_whole : (o : Option ChanId) → IfNone o ((y : ChanId) → IsMaskedWith masks cell trx Full y → ⊥) → IfNone o ((y : ChanId) → IsMaskedAt masks cell rate.Full y → y.trx ≡ trx → ⊥)
  none_whole None none = λ y at there. none y (record { masked = at.masked; trx = there; sub = whole_at y.sub at.rate })
  none_whole (Some x) none = tt

  -- the first of halves
  module _ (x z : ChanId) (lower : IsFirstWith masks cell trx Half0 x) (upper : IsFirstWith masks cell trx Half1 z) where
    lower_first : nat_lt z.tn x.tn ≡ false → IsFirstAt masks cell trx rate.Half x
    lower_first test = record {
      there = record { masked = lower.there.masked; rate = ap rate_of lower.there.sub };
      trx = lower.there.trx;
      first = λ y at there. elim (half_at y.sub at.rate) [
        | inl half ↦
            let no_later = lower.first y (record { masked = at.masked; trx = there; sub = half }) in
            let numbers : sub_number x.sub ≡ sub_number y.sub = ap sub_number (lower.there.sub ∙ sym half) in
            omega (arith, no_later, numbers)
        | inr half ↦
            let no_later = upper.first y (record { masked = at.masked; trx = there; sub = half }) in
            let mine : sub_number x.sub ≡ 1 = ap sub_number lower.there.sub in
            let other : sub_number y.sub ≡ 2 = ap sub_number half in
            let order : x.tn ≤ z.tn = least z.tn x.tn test in
            omega (arith, no_later, mine, other, order)
      ];
    }
      where
        least : (n m : ℕ) → nat_lt n m ≡ false → m ≤ n
        least n m e = grind (arith, nat_tests)

    upper_first : nat_lt z.tn x.tn ≡ true → IsFirstAt masks cell trx rate.Half z
    upper_first test = record {
      there = record { masked = upper.there.masked; rate = ap rate_of upper.there.sub };
      trx = upper.there.trx;
      first = λ y at there. elim (half_at y.sub at.rate) [
        | inl half ↦
            let no_later = lower.first y (record { masked = at.masked; trx = there; sub = half }) in
            let mine : sub_number z.sub ≡ 2 = ap sub_number upper.there.sub in
            let order : z.tn < x.tn = less z.tn x.tn test in
            omega (arith, no_later, mine, order)
        | inr half ↦
            let no_later = upper.first y (record { masked = at.masked; trx = there; sub = half }) in
            let numbers : sub_number z.sub ≡ sub_number y.sub = ap sub_number (upper.there.sub ∙ sym half) in
            omega (arith, no_later, numbers)
      ];
    }
      where
        less : (n m : ℕ) → nat_lt n m ≡ true → n < m
        less n m e = grind (arith, nat_tests)

  one_half : (sub other : Sub) → ((s : Sub) → rate_of s ≡ rate.Half → (s ≡ sub) ⊎ (s ≡ other)) → rate_of sub ≡ rate.Half → (x : ChanId) → IsFirstWith masks cell trx sub x
      → ((y : ChanId) → IsMaskedWith masks cell trx other y → ⊥) → IsFirstAt masks cell trx rate.Half x
  one_half sub other halves half x first none = record {
    there = record { masked = first.there.masked; rate = ap rate_of first.there.sub ∙ half };
    trx = first.there.trx;
    first = λ y at there. elim (halves y.sub at.rate) [
      | inl same ↦
          let no_later = first.first y (record { masked = at.masked; trx = there; sub = same }) in
          let numbers : sub_number x.sub ≡ sub_number y.sub = ap sub_number (first.there.sub ∙ sym same) in
          omega (arith, no_later, numbers)
      | inr apart ↦ absurd (none y (record { masked = at.masked; trx = there; sub = apart }))
    ];
  }

  half_turned : (s : Sub) → rate_of s ≡ rate.Half → (s ≡ Half1) ⊎ (s ≡ Half0)
  half_turned Full e = absurd cc
  half_turned Half0 e = inr refl
  half_turned Half1 e = inl refl

  pub first_half : (o p : Option ChanId) → IfSome o (λ x. IsFirstWith masks cell trx Half0 x) → IfSome p (λ x. IsFirstWith masks cell trx Half1 x)
      → IfNone o ((y : ChanId) → IsMaskedWith masks cell trx Half0 y → ⊥) → IfNone p ((y : ChanId) → IsMaskedWith masks cell trx Half1 y → ⊥)
      → IfSome (lower_of o p) (λ x. IsFirstAt masks cell trx rate.Half x)
  first_half (Some x) (Some z) lower upper n m = by (nat_lt z.tn x.tn) refl
    where
      by : (b : Bool) → nat_lt z.tn x.tn ≡ b → IfSome (cond b (Some z) (Some x)) (λ y. IsFirstAt masks cell trx rate.Half y)
      by true test = upper_first x z lower upper test
      by false test = lower_first x z lower upper test
  first_half (Some x) None lower upper n m = one_half Half0 Half1 half_at refl x lower m
  first_half None (Some z) lower upper n m = one_half Half1 Half0 half_turned refl z upper n
  first_half None None lower upper n m = tt

  pub no_half : (o p : Option ChanId) → IfNone o ((y : ChanId) → IsMaskedWith masks cell trx Half0 y → ⊥) → IfNone p ((y : ChanId) → IsMaskedWith masks cell trx Half1 y → ⊥)
      → IfNone (lower_of o p) ((y : ChanId) → IsMaskedAt masks cell rate.Half y → y.trx ≡ trx → ⊥)
  no_half (Some x) (Some z) n m = by (nat_lt z.tn x.tn)
    where
      by : (b : Bool) → IfNone (cond b (Some z) (Some x)) ((y : ChanId) → IsMaskedAt masks cell rate.Half y → y.trx ≡ trx → ⊥)
      by true = tt
      by false = tt
  no_half (Some x) None n m = tt
  no_half None (Some z) n m = tt
  no_half None None n m = λ y at there. elim (half_at y.sub at.rate) [
    | inl half ↦ n y (record { masked = at.masked; trx = there; sub = half })
    | inr half ↦ m y (record { masked = at.masked; trx = there; sub = half })
  ]

-- ---- counts

-- the channels of a TRX are counted part by part
three_counts : (p : ChanId → Bool) (cell trx : ℕ) (ns : List ℕ) → count_by p (flat_map (parts_of cell trx) ns)
    ≡ count_by (λ tn. p (record { cell = cell; trx = trx; tn = tn; sub = Full })) ns + count_by (λ tn. p (record { cell = cell; trx = trx; tn = tn; sub = Half0 })) ns
    + count_by (λ tn. p (record { cell = cell; trx = trx; tn = tn; sub = Half1 })) ns
three_counts p cell trx [] = refl
three_counts p cell trx (n ∷ ns) =
    let one : ChanId → ℕ = λ x. cond (p x) 1 0 in
    let full : ChanId = record { cell = cell; trx = trx; tn = n; sub = Full } in
    let half0 : ChanId = record { cell = cell; trx = trx; tn = n; sub = Half0 } in
    let half1 : ChanId = record { cell = cell; trx = trx; tn = n; sub = Half1 } in
    let rest = flat_map (parts_of cell trx) ns in
    let whole : count_by p (flat_map (parts_of cell trx) (n ∷ ns)) ≡ count_by p (full ∷ half0 ∷ half1 ∷ rest) = ap (count_by p) (flat_map-cons (parts_of cell trx) n ns) in
    let a = sum_by-cons one full (half0 ∷ half1 ∷ rest) in
    let b = sum_by-cons one half0 (half1 ∷ rest) in
    let c = sum_by-cons one half1 rest in
    let more = three_counts p cell trx ns in
    let d = sum_by-cons (λ tn. cond (p (record { cell = cell; trx = trx; tn = tn; sub = Full })) 1 0) n ns in
    let e = sum_by-cons (λ tn. cond (p (record { cell = cell; trx = trx; tn = tn; sub = Half0 })) 1 0) n ns in
    let f = sum_by-cons (λ tn. cond (p (record { cell = cell; trx = trx; tn = tn; sub = Half1 })) 1 0) n ns in
    omega (arith, whole, a, b, c, more, d, e, f)

pub by_parts : (p : ChanId → Bool) (cell trx : ℕ) → count_by p (trx_channels cell trx)
    ≡ count_by (λ tn. p (record { cell = cell; trx = trx; tn = tn; sub = Full })) timeslots + count_by (λ tn. p (record { cell = cell; trx = trx; tn = tn; sub = Half0 })) timeslots
    + count_by (λ tn. p (record { cell = cell; trx = trx; tn = tn; sub = Half1 })) timeslots
by_parts p cell trx = three_counts p cell trx (range_with_len 0 8)

-- and those of a cell TRX by TRX
pub by_trx : (p : ChanId → Bool) (cell : ℕ) → count_by p (channels_of cell)
    ≡ count_by p (trx_channels cell 0) + count_by p (trx_channels cell 1) + count_by p (trx_channels cell 2) + count_by p (trx_channels cell 3)
unfolding channels_of
by_trx p cell =
    let f = trx_channels cell in
    let a = flat_counted f 0 (1 ∷ 2 ∷ 3 ∷ []) in
    let b = flat_counted f 1 (2 ∷ 3 ∷ []) in
    let c = flat_counted f 2 (3 ∷ []) in
    let d = flat_counted f 3 [] in
    omega (arith, a, b, c, d)
  where
    flat_counted : (f : ℕ → List ChanId) (n : ℕ) (ns : List ℕ) → count_by p (flat_map f (n ∷ ns)) ≡ count_by p (f n) + count_by p (flat_map f ns)
    flat_counted f n ns = ap (count_by p) (flat_map-cons f n ns) ∙ sum_by-append (λ x. cond (p x) 1 0) (f n) (flat_map f ns)

-- a mask that was read counts its channels
pub part_count : (masks : List ℕ) (cell trx : ℕ) (sub : Sub) (place mask count : ℕ) → place ≡ (cell * 4 + trx) * 3 + sub_number sub → place < 768 → length masks ≡ 768
    → ((d : ℕ) → mask ≡ get_or masks place d) → count ≡ count_by (has mask) timeslots
    → count ≡ count_by (λ tn. mask_at masks (record { cell = cell; trx = trx; tn = tn; sub = sub })) timeslots
part_count masks cell trx sub place mask count at within long read counted =
    counted ∙ ap (λ m. count_by (has m) timeslots) (read 0 ∙ ap (λ k. get_or masks k 0) at)

-- tests that answer alike count alike
count_alike : (p q : ChanId → Bool) (xs : List ChanId) → AllByRecursion (λ x. p x ≡ q x) xs → count_by p xs ≡ count_by q xs
count_alike p q [] all = refl
count_alike p q (x ∷ xs) all =
    sum_by-cons (λ y. cond (p y) 1 0) x xs ∙ ap (λ b. cond b 1 0 + count_by p xs) all.0 ∙ ap (λ k. cond (q x) 1 0 + k) (count_alike p q xs all.1)
    ∙ sym (sum_by-cons (λ y. cond (q y) 1 0) x xs)

all_append : (P : ChanId → Type 0) (xs ys : List ChanId) → AllByRecursion P xs → AllByRecursion P ys → AllByRecursion P (xs ++ ys)
all_append P [] ys all all' = all'
all_append P (x ∷ xs) ys all all' = (all.0, all_append P xs ys all.1 all')

all_flat : (P : ChanId → Type 0) (f : ℕ → List ChanId) (ns : List ℕ) → AllByRecursion (λ n. AllByRecursion P (f n)) ns → AllByRecursion P (flat_map f ns)
all_flat P f [] all = tt
all_flat P f (n ∷ ns) all = subst (AllByRecursion P) (sym (flat_map-cons f n ns)) (all_append P (f n) (flat_map f ns) all.0 (all_flat P f ns all.1))

all_range : (P : ℕ → Type 0) (a n : ℕ) → ((j : ℕ) → j < a + n → P j) → AllByRecursion P (range_with_len a n)
all_range P a zero each = tt
all_range P a (suc n) each = (each a (omega arith), all_range P (a + 1) n (λ j most. each j (omega arith)))

-- what holds of every channel within the limits holds of those of a cell
pub of_cell : (P : ChanId → Type 0) (cell : ℕ) → ((trx tn : ℕ) (sub : Sub) → trx < 4 → tn < 8 → P (record { cell = cell; trx = trx; tn = tn; sub = sub })) → AllByRecursion P (channels_of cell)
unfolding channels_of
of_cell P cell each =
    all_flat P (trx_channels cell) (range_with_len 0 4) (all_range (λ trx. AllByRecursion P (trx_channels cell trx)) 0 4
    (λ trx few. all_flat P (parts_of cell trx) (range_with_len 0 8) (all_range (λ tn. AllByRecursion P (parts_of cell trx tn)) 0 8
    (λ tn less. (each trx tn Full few less, (each trx tn Half0 few less, (each trx tn Half1 few less, tt)))))))

-- the masks of a table count what can be chosen
pub masks_count : (site : SiteView) (states : List ChanState) (masks : List ℕ) → AreMasks site states masks → (cell : ℕ) → cell < 64 → count_by (mask_at masks) (channels_of cell) ≡ free_in (record { site = site; states = states_of site states }) cell
masks_count site states masks are cell small =
    count_alike (mask_at masks) (is_free_traffic (record { site = site; states = states_of site states })) (channels_of cell)
    (of_cell (λ x. mask_at masks x ≡ is_free_traffic (record { site = site; states = states_of site states }) x) cell (λ trx tn sub few less.
    let x : ChanId = record { cell = cell; trx = trx; tn = tn; sub = sub } in
    are x (record { cell = small; trx = few; timeslot = less }) ∙ ap (λ o. is_traffic site x && is_none o) (sym (same_way site states x))))

no_count : (xs : List ChanId) → count_by (λ x. false) xs ≡ 0
no_count [] = refl
no_count (x ∷ xs) = sum_by-cons (λ y. 0) x xs ∙ zero-add (count_by (λ y. false) xs) ∙ no_count xs

pub count_beyond : (c : Channels) (cell : ℕ) → TrafficLiesWithin c.site → 64 ≤ cell → 0 ≡ free_in c cell
count_beyond c cell lies beyond =
    sym (count_alike (is_free_traffic c) (λ x. false) (channels_of cell) (of_cell (λ x. is_free_traffic c x ≡ false) cell (λ trx tn sub few less.
    let x : ChanId = record { cell = cell; trx = trx; tn = tn; sub = sub } in
    and_left (is_traffic c.site x) (is_none (first_in_way (state_of c) x)) (false_from_ne_true (is_traffic c.site x) (λ traffic. let limits = lies x traffic in let small = limits.cell in omega arith))))
    ∙ no_count (channels_of cell))
