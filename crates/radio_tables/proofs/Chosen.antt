-- Which channels a choice finds, and how many it counts.
use Rattle.std.proofs.Common.{◌≡◌, IfSome, IfNone, ℕ, ◌+◌, ◌*◌, lit≤, ◌<◌, ◌≤◌, ◌/◌, ◌%◌, Bool, true, false, cond, List, [], ◌∷◌, length, get_or, take, drop, map as map_list, count_by, Option, Some, None, is_none, refl, sym, ap, ◌∙◌, subst, zero-add, arith}
use Rattle.std.specs.List.{find, range_with_len}
use Rattle.std.specs.Int.{from_bool}
use Rattle.std.proofs.lemmas.List.{at_drop_more, drop_all, take_all}
use Rattle.std.proofs.lemmas.List.Sums.{sum_by_more, sum_by-cons}
use Rattle.std.proofs.lemmas.List.FromFn.{get_or-map-range_with_len}
use Rattle.std.proofs.lemmas.Bool.{and_parts, and_from, false≢true}
use Rattle.timeslots.specs.declared.Rate.{Rate}
use Rattle.timeslots.specs.declared.Rate.TheVariants as rate
use Rattle.timeslots.specs.declared.Sub.{Sub}
use Rattle.timeslots.specs.declared.Sub.TheVariants.{Full, Half0, Half1}
use Rattle.channel_fsm.specs.declared.ChanId.{ChanId}
use Rattle.timeslots.specs.Parts.{sub_number, rate_of}
use Rattle.cell_table.specs.Site.{IsWithinLimits, TrafficLiesWithin, is_traffic}
use Rattle.radio_tables.specs.State.{State}
use Rattle.radio_tables.specs.Choice.{in_way, IsFreeIn, IsFreeAt, NoneFree, NoneFreeAt}
use Rattle.radio_tables.specs.Places.{channels_of, sub_at, is_free_traffic, has_rate, is_free_at, free_in}
use Rattle.std.proofs.lemmas.Option.{same_Some}
use Rattle.std.specs.List.{AllByRecursion}
use Rattle.std.proofs.lemmas.List.Elements.{All-get_or, All-from_recursion}

-- the channel at a place among those that a cell can have
abbrev pub channel_at : ℕ → ℕ → ChanId
channel_at cell place = record { cell = cell; trx = place / 24; tn = place / 3 % 8; sub = sub_at (place % 3) }

-- the channels of a cell are those at its 96 places
pub by_places : (cell : ℕ) → channels_of cell ≡ map_list (channel_at cell) (range_with_len 0 96)
unfolding channels_of
by_places cell = refl

channels_length : (cell : ℕ) → length (channels_of cell) ≡ 96
unfolding channels_of
channels_length cell = refl

pub within : (cell place : ℕ) → place < 96 → place < length (channels_of cell)
within cell place h = omega (arith, h, channels_length cell)

pub place_at : (cell place : ℕ) (d : ChanId) → place < 96 → get_or (channels_of cell) place d ≡ channel_at cell place
place_at cell place d h =
    ap (λ xs. get_or xs place d) (by_places cell) ∙ get_or-map-range_with_len (channel_at cell) 0 96 place place d h (zero-add place)

-- one place on, a search has or hasn't found
module _ (p : ChanId → Bool) (cell place : ℕ) where
  at_place : place < 96 → find p (drop place (channels_of cell)) ≡ find p (channel_at cell place ∷ drop (place + 1) (channels_of cell))
  at_place h =
      at_drop_more (find p) (channels_of cell) place (channel_at cell place) (within cell place h)
      ∙ ap (λ x. find p (x ∷ drop (place + 1) (channels_of cell))) (place_at cell place (channel_at cell place) h)

  pub found_at : place < 96 → p (channel_at cell place) ≡ true → find p (drop place (channels_of cell)) ≡ Some (channel_at cell place)
  found_at h free = at_place h ∙ ap (λ t. cond t (Some (channel_at cell place)) (find p (drop (place + 1) (channels_of cell)))) free

  pub passed_at : place < 96 → p (channel_at cell place) ≡ false → find p (drop place (channels_of cell)) ≡ find p (drop (place + 1) (channels_of cell))
  passed_at h busy = at_place h ∙ ap (λ t. cond t (Some (channel_at cell place)) (find p (drop (place + 1) (channels_of cell)))) busy

  pub passed_all : 96 ≤ place → find p (drop place (channels_of cell)) ≡ None
  passed_all h = ap (find p) (drop_all place (channels_of cell) (omega (arith, h, channels_length cell)))

-- a count goes on by one place
one_if : (t : Bool) → cond t 1 0 ≡ from_bool t
one_if true = refl
one_if false = refl

pub one_at_most : (t : Bool) → from_bool t ≤ 1
one_at_most true = lit≤ tt
one_at_most false = lit≤ tt

pub counted_at : (b : State) (cell place : ℕ) → place < 96 →
    count_by (is_free_traffic b) (take (place + 1) (channels_of cell)) ≡ count_by (is_free_traffic b) (take place (channels_of cell)) + from_bool (is_free_traffic b (channel_at cell place))
counted_at b cell place h =
    let one : ChanId → ℕ = λ x. cond (is_free_traffic b x) 1 0 in
    sum_by_more one (channels_of cell) place (channel_at cell place) (within cell place h)
    ∙ ap (λ x. count_by (is_free_traffic b) (take place (channels_of cell)) + one x) (place_at cell place (channel_at cell place) h)
    ∙ ap (λ n. count_by (is_free_traffic b) (take place (channels_of cell)) + n) (one_if (is_free_traffic b (channel_at cell place)))

-- what a search over places finds
mapped : (p : ChanId → Bool) (cell : ℕ) (ns : List ℕ) (x : ChanId) → find p (map_list (channel_at cell) ns) ≡ Some x → (x.cell ≡ cell) × (p x ≡ true)
mapped p cell [] x e = cc
mapped p cell (n ∷ ns) x e =
    elim (p (channel_at cell n)) as (λ t. p (channel_at cell n) ≡ t → cond t (Some (channel_at cell n)) (find p (map_list (channel_at cell) ns)) ≡ Some x → (x.cell ≡ cell) × (p x ≡ true)) [
      | true ↦ λ is h. let same : channel_at cell n ≡ x = same_Some _ _ h in (ap (λ y. y.cell) (sym same), ap p (sym same) ∙ is)
      | false ↦ λ is h. mapped p cell ns x h
    ] refl e

found : (p : ChanId → Bool) (cell : ℕ) (x : ChanId) → find p (channels_of cell) ≡ Some x → (x.cell ≡ cell) × (p x ≡ true)
found p cell x e = mapped p cell (range_with_len 0 96) x (ap (find p) (sym (by_places cell)) ∙ e)

pub none_there : {X : Type 0} (o : Option X) → is_none o ≡ true → o ≡ None
none_there None e = refl
none_there (Some v) e = absurd (false≢true e)

pub is_free_in : (b : State) (cell : ℕ) (x : ChanId) → x.cell ≡ cell → is_free_traffic b x ≡ true → IsFreeIn b cell x
is_free_in b cell x here passes =
    let parts = and_parts (is_traffic b.site x) (is_none (in_way b x)) passes in
    record { in_cell = here; is_traffic = parts.0; is_free = none_there (in_way b x) parts.1 }

pub passes_in : (b : State) (cell : ℕ) (x : ChanId) → IsFreeIn b cell x → is_free_traffic b x ≡ true
passes_in b cell x free = and_from _ _ free.is_traffic (ap is_none free.is_free)

rate_is : (r : Rate) (s : Sub) → has_rate r s ≡ true → rate_of s ≡ r
rate_is rate.Full Full e = refl
rate_is rate.Full Half0 e = absurd (false≢true e)
rate_is rate.Full Half1 e = absurd (false≢true e)
rate_is rate.Half Full e = absurd (false≢true e)
rate_is rate.Half Half0 e = refl
rate_is rate.Half Half1 e = refl

its_rate : (s : Sub) → has_rate (rate_of s) s ≡ true
its_rate Full = refl
its_rate Half0 = refl
its_rate Half1 = refl

-- what a search passes, fails
failed : (p : ChanId → Bool) (xs : List ChanId) → find p xs ≡ None → AllByRecursion (λ x. p x ≡ false) xs
failed p [] e = tt
failed p (x ∷ xs) e =
    elim (p x) as (λ t. p x ≡ t → cond t (Some x) (find p xs) ≡ None → AllByRecursion (λ y. p y ≡ false) (x ∷ xs)) [
      | true ↦ λ is h. cc
      | false ↦ λ is h. (is, failed p xs h)
    ] refl e

sub_small : (s : Sub) → sub_number s < 3
sub_small Full = omega arith
sub_small Half0 = omega arith
sub_small Half1 = omega arith

sub_again : (s : Sub) → sub_at (sub_number s) ≡ s
sub_again Full = refl
sub_again Half0 = refl
sub_again Half1 = refl

-- the place of a channel
abbrev pub place_of : ChanId → ℕ
place_of x = 24 * x.trx + (x.tn * 3 + sub_number x.sub)

pub place_small : (x : ChanId) → IsWithinLimits x → place_of x < 96
place_small x limits = let less = sub_small x.sub in omega (arith, limits.trx, limits.timeslot, less)

pub by_place : (x : ChanId) → x.tn < 8 → channel_at x.cell (place_of x) ≡ x
by_place x h =
    let less = sub_small x.sub in
    let trx : place_of x / 24 ≡ x.trx = omega arith in
    let tn : place_of x / 3 % 8 ≡ x.tn = omega arith in
    let number : place_of x % 3 ≡ sub_number x.sub = omega arith in
    let sub = ap sub_at number ∙ sub_again x.sub in
    λ i. record { cell = x.cell; trx = trx i; tn = tn i; sub = sub i }

pub stands_there : (cell : ℕ) (x : ChanId) → x.cell ≡ cell → IsWithinLimits x → get_or (channels_of cell) (place_of x) x ≡ x
stands_there cell x here limits =
    place_at cell (place_of x) x (place_small x limits) ∙ ap (λ k. channel_at k (place_of x)) (sym here) ∙ by_place x limits.timeslot

fails : (p : ChanId → Bool) (cell : ℕ) → find p (channels_of cell) ≡ None → (x : ChanId) → x.cell ≡ cell → IsWithinLimits x → p x ≡ false
fails p cell e x here limits =
    ap p (sym (stands_there cell x here limits))
    ∙ All-get_or (λ y. p y ≡ false) (channels_of cell) (place_of x) x (within cell (place_of x) (place_small x limits))
    (All-from_recursion (λ y. p y ≡ false) (channels_of cell) (failed p (channels_of cell) e))

none_in : (b : State) (cell : ℕ) → TrafficLiesWithin b.site → find (is_free_traffic b) (channels_of cell) ≡ None → NoneFree b cell
none_in b cell site e x free =
    false≢true (sym (fails (is_free_traffic b) cell e x free.in_cell (site x free.is_traffic)) ∙ passes_in b cell x free)

pub counted_all : (b : State) (cell place : ℕ) → 96 ≤ place → count_by (is_free_traffic b) (take place (channels_of cell)) ≡ free_in b cell
counted_all b cell place h = ap (count_by (is_free_traffic b)) (take_all place (channels_of cell) (omega (arith, h, channels_length cell)))

-- what was searched for is told by what was found
pub if_found : (b : State) (cell : ℕ) (r : Rate) (o : Option ChanId) → o ≡ find (is_free_at b r) (channels_of cell) → IfSome o (λ x. IsFreeAt b cell r x)
if_found b cell r None e = tt
if_found b cell r (Some x) e =
    let m = found (is_free_at b r) cell x (sym e) in
    let parts = and_parts (has_rate r x.sub) (is_free_traffic b x) m.1 in
    record { free = is_free_in b cell x m.0 parts.1; rate = rate_is r x.sub parts.0 }

pub if_none : (b : State) (cell : ℕ) (r : Rate) → TrafficLiesWithin b.site → (o : Option ChanId) → o ≡ find (is_free_at b r) (channels_of cell) → IfNone o (NoneFreeAt b cell r)
if_none b cell r site None e = λ x free.
    let rated : has_rate r x.sub ≡ true = subst (λ q. has_rate q x.sub ≡ true) free.rate (its_rate x.sub) in
    false≢true (sym (fails (is_free_at b r) cell (sym e) x free.free.in_cell (site x free.free.is_traffic)) ∙ and_from _ _ rated (passes_in b cell x free.free))
if_none b cell r site (Some x) e = tt

-- a count is 0 exactly where a search finds nothing
none_found : (p : ChanId → Bool) (xs : List ChanId) → count_by p xs ≡ 0 → find p xs ≡ None
none_found p [] e = refl
none_found p (x ∷ xs) e =
    elim (p x) as (λ t. count_by p (x ∷ xs) ≡ cond t 1 0 + count_by p xs → cond t (Some x) (find p xs) ≡ None) [
      | true ↦ λ step. absurd (omega arith)
      | false ↦ λ step. none_found p xs (omega arith)
    ] (sum_by-cons (λ y. cond (p y) 1 0) x xs)

none_counted : (p : ChanId → Bool) (xs : List ChanId) → find p xs ≡ None → count_by p xs ≡ 0
none_counted p [] e = refl
none_counted p (x ∷ xs) e =
    elim (p x) as (λ t. count_by p (x ∷ xs) ≡ cond t 1 0 + count_by p xs → cond t (Some x) (find p xs) ≡ None → count_by p (x ∷ xs) ≡ 0) [
      | true ↦ λ step none. cc
      | false ↦ λ step none. let rest = none_counted p xs none in omega arith
    ] (sum_by-cons (λ y. cond (p y) 1 0) x xs) e

pub count_from_none : (b : State) (cell : ℕ) → NoneFree b cell → free_in b cell ≡ 0
count_from_none b cell none = by_found (find (is_free_traffic b) (channels_of cell)) refl
  where
    by_found : (o : Option ChanId) → find (is_free_traffic b) (channels_of cell) ≡ o → free_in b cell ≡ 0
    by_found None e = none_counted (is_free_traffic b) (channels_of cell) e
    by_found (Some x) e = let m = found (is_free_traffic b) cell x e in absurd (none x (is_free_in b cell x m.0 m.1))

pub none_from_count : (b : State) (cell : ℕ) → TrafficLiesWithin b.site → free_in b cell ≡ 0 → NoneFree b cell
none_from_count b cell site e = none_in b cell site (none_found (is_free_traffic b) (channels_of cell) e)
