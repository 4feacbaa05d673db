-- The place of a traffic channel among those of the site: as many as the sizes of what comes before it.
use Rattle.std.proofs.Common.{◌≡◌, ◌==◌, ℕ, zero, suc, ◌+◌, ◌-◌, ◌/◌, ◌%◌, ◌<◌, ◌≤◌, nat_lt, Bool, true, false, cond, ◌&&◌, ◌||◌, List, [], ◌∷◌, ◌++◌, length, map, take, filter, flat_map, sum_by, count_by, Option, Some, None, option_map, option_and_then, unwrap_or, slice_get, All, refl, sym, ◌∙◌, ap, zero-add, one-add, suc-add, arith}
use Rattle.std.proofs.lemmas.Bool.{false≢true, or_parts, or_from, and_left}
use Rattle.std.proofs.lemmas.Bool.Decides.{nat_tests}
use Rattle.std.proofs.lemmas.Option.{none-some}
use Rattle.std.proofs.lemmas.Grind.{flat_map-append}
use Rattle.std.proofs.lemmas.List.{take_all}
use Rattle.std.proofs.lemmas.List.Concat.{flat_map-cons, flat_map_single}
use Rattle.std.proofs.lemmas.List.Elements.{filter-append}
use Rattle.std.proofs.lemmas.List.Folds.{list_any-append}
use Rattle.std.proofs.lemmas.List.Sums.{sum_by-cons, sum_by-append, length-filter}
use Rattle.std.specs.List.{list_any, position, range_with_len, AllByRecursion}
use Rattle.channel_fsm.specs.declared.ChanId.{ChanId}
use Rattle.channel_fsm.specs.Keys.{same_chan}
use Rattle.channel_fsm.proofs.KeyFacts.{one_chan, other_chan}
use Rattle.cell_table.specs.declared.fault.Key.TheVariants as key
use Rattle.cell_table.specs.Ranges.{IsAllowed}
use Rattle.cell_table.specs.Limits.{most_cells, most_trx, timeslots_of_trx}
use Rattle.cell_table.specs.Site.{TrxView, CellView, SiteView, IsSite, IsCell, IsHalf, IsWithinLimits, trx_at, slots_with, is_traffic, all_channels, channels, index_of}
use Rattle.cell_table.specs.Searches.{trx_size, cell_size, slots_before, before_in_cell, channels_before, has_pair, has_slot_pair}
use Rattle.cell_table.proofs.Ordered.{is_in, IsInOrder, count_in_order, count_by_same, count_by_none}
use Rattle.cell_table.proofs.PartFacts.{places_of_trx, part, channel, number, channel_number, number_limit, found_itself, other_number, by_numbers, numbers_of, number_in, before_numbers, size_numbers, numbers_once, numbers_within}
use Rattle.cell_table.proofs.Positions.{position-cons}
use Rattle.cell_table.proofs.Unique.{none_at}
use Rattle.cell_table.proofs.SiteFacts.{got, traffic_limits}
use Rattle.cell_table.proofs.Lookups.{unbroken_parts}

-- ranges

pub range_split : (a m rest : ℕ) → range_with_len a (m + suc rest) ≡ range_with_len a m ++ (a + m) ∷ range_with_len (a + m + 1) rest
range_split a zero rest =
    let here : a + 0 ≡ a = omega arith in
    rw (zero-add (suc rest), here) refl
range_split a (suc m) rest =
    let next : a + 1 + m ≡ a + suc m = omega arith in
    ap (range_with_len a) (suc-add m (suc rest)) ∙ ap (λ ns. a ∷ ns) (range_split (a + 1) m rest ∙ ap (λ k. range_with_len (a + 1) m ++ k ∷ range_with_len (k + 1) rest) next)

split_at : (n k : ℕ) → k < n → range_with_len 0 n ≡ range_with_len 0 k ++ k ∷ range_with_len (k + 1) (n - k - 1)
split_at n k less =
    let long : n ≡ k + suc (n - k - 1) = omega arith in
    ap (range_with_len 0) long ∙ range_split 0 k (n - k - 1) ∙ ap (λ m. range_with_len 0 k ++ m ∷ range_with_len (m + 1) (n - k - 1)) (zero-add k)

all_range : (P : ℕ → Type 0) (a n : ℕ) → ((j : ℕ) → a ≤ j → j < a + n → P j) → AllByRecursion P (range_with_len a n)
all_range P a zero each = tt
all_range P a (suc n) each = (each a (omega arith) (omega arith), all_range P (a + 1) n (λ j least most. each j (omega arith) (omega arith)))

-- a list in which a test passes nowhere, element by element

none_filter : {X : Type 0} (q p : X → Bool) (xs : List X) → list_any q xs ≡ false → list_any q (filter p xs) ≡ false
none_filter q p [] none = refl
none_filter q p (x ∷ xs) none =
    let (here, rest) = or_parts (q x) (list_any q xs) none in
    by (p x) here (none_filter q p xs rest)
  where
    by : (b : Bool) → q x ≡ false → list_any q (filter p xs) ≡ false → list_any q (cond b (x ∷ filter p xs) (filter p xs)) ≡ false
    by true here rest = or_from (q x) (list_any q (filter p xs)) here rest
    by false here rest = rest

none_map : {X : Type 0} (q : X → Bool) (make : ℕ → X) (ns : List ℕ) → AllByRecursion (λ n. q (make n) ≡ false) ns → list_any q (map make ns) ≡ false
none_map q make [] each = refl
none_map q make (n ∷ ns) each = or_from (q (make n)) (list_any q (map make ns)) each.0 (none_map q make ns each.1)

none_flat : {X : Type 0} (q : X → Bool) (f : ℕ → List X) (ns : List ℕ) → AllByRecursion (λ n. list_any q (f n) ≡ false) ns → list_any q (flat_map f ns) ≡ false
none_flat q f [] each = refl
none_flat q f (n ∷ ns) each =
    ap (list_any q) (flat_map-cons f n ns) ∙ list_any-append q (f n) (flat_map f ns) ∙ or_from (list_any q (f n)) (list_any q (flat_map f ns)) each.0 (none_flat q f ns each.1)

-- positions in lists that stand behind one another

skipped : {X : Type 0} (q : X → Bool) (xs ys : List X) (i : ℕ) → list_any q xs ≡ false → position q ys ≡ Some i → position q (xs ++ ys) ≡ Some (length xs + i)
skipped q [] ys i none there = there ∙ ap (λ n. Some n) (sym (zero-add i))
skipped q (x ∷ xs) ys i none there =
    let (here, rest) = or_parts (q x) (list_any q xs) none in
    position-cons q x (xs ++ ys) ∙ rw (here, skipped q xs ys i rest there) (ap (λ n. Some n) (sym (suc-add (length xs) i)))

kept_by : {X : Type 0} (q : X → Bool) (x : X) (xs ys : List X) → ((j : ℕ) → position q xs ≡ Some j → position q (xs ++ ys) ≡ Some j) → (i : ℕ) (b : Bool) (o : Option ℕ)
    → position q xs ≡ o → cond b (Some 0) (option_map suc o) ≡ Some i → cond b (Some 0) (option_map suc (position q (xs ++ ys))) ≡ Some i
kept_by q x xs ys rest i true o found there = there
kept_by q x xs ys rest i false None found there = absurd (none-some i there)
kept_by q x xs ys rest i false (Some j) found there = ap (option_map suc) (rest j found) ∙ there

kept : {X : Type 0} (q : X → Bool) (xs ys : List X) (i : ℕ) → position q xs ≡ Some i → position q (xs ++ ys) ≡ Some i
kept q [] ys i there = absurd (none-some i there)
kept q (x ∷ xs) ys i there =
    position-cons q x (xs ++ ys) ∙ kept_by q x xs ys (λ j found. kept q xs ys j found) i (q x) (position q xs) refl (sym (position-cons q x xs) ∙ there)

missing : {X : Type 0} (q p : X → Bool) (xs : List X) → ((x : X) → q x ≡ true → p x ≡ false) → list_any q (filter p xs) ≡ false
missing q p [] apart = refl
missing q p (x ∷ xs) apart = by (p x) refl (q x) refl (missing q p xs apart)
  where
    by : (b : Bool) → p x ≡ b → (t : Bool) → q x ≡ t → list_any q (filter p xs) ≡ false → list_any q (cond b (x ∷ filter p xs) (filter p xs)) ≡ false
    by false is t is' rest = rest
    by true is true is' rest = absurd (false≢true (sym (apart x is') ∙ is))
    by true is false is' rest = or_from (q x) (list_any q (filter p xs)) is' rest

pub none_found : {X : Type 0} (q : X → Bool) (xs : List X) → list_any q xs ≡ false → position q xs ≡ None
none_found q [] none = refl
none_found q (x ∷ xs) none =
    let (here, rest) = or_parts (q x) (list_any q xs) none in
    position-cons q x xs ∙ rw (here, none_found q xs rest) refl

-- lists that are made part by part

flat_count : {X : Type 0} (p : X → Bool) (f : ℕ → List X) (ns : List ℕ) → count_by p (flat_map f ns) ≡ sum_by (λ n. count_by p (f n)) ns
flat_count p f [] = refl
flat_count p f (n ∷ ns) =
    ap (count_by p) (flat_map-cons f n ns) ∙ sum_by-append (λ x. cond (p x) 1 0) (f n) (flat_map f ns) ∙ ap (λ k. count_by p (f n) + k) (flat_count p f ns)
    ∙ sym (sum_by-cons (λ k. count_by p (f k)) n ns)

map_count : {X : Type 0} (p : X → Bool) (make : ℕ → X) (ns : List ℕ) → count_by p (map make ns) ≡ count_by (λ n. p (make n)) ns
map_count p make [] = refl
map_count p make (n ∷ ns) =
    sum_by-cons (λ x. cond (p x) 1 0) (make n) (map make ns) ∙ ap (λ k. cond (p (make n)) 1 0 + k) (map_count p make ns) ∙ sym (sum_by-cons (λ k. cond (p (make k)) 1 0) n ns)

-- the position in the part that has it, behind the parts before
in_part : {X : Type 0} (q p : X → Bool) (f : ℕ → List X) (before : List ℕ) (k : ℕ) (after : List ℕ) (i : ℕ) → AllByRecursion (λ n. list_any q (f n) ≡ false) before
    → position q (filter p (f k)) ≡ Some i → position q (filter p (flat_map f (before ++ k ∷ after))) ≡ Some (sum_by (λ n. count_by p (f n)) before + i)
in_part q p f before k after i none there =
    let parts : filter p (flat_map f (before ++ k ∷ after)) ≡ filter p (flat_map f before) ++ (filter p (f k) ++ filter p (flat_map f after)) =
    ap (filter p) (flat_map-append f before (k ∷ after)) ∙ filter-append p (flat_map f before) (flat_map f (k ∷ after))
    ∙ ap (λ xs. filter p (flat_map f before) ++ xs) (ap (filter p) (flat_map-cons f k after) ∙ filter-append p (f k) (flat_map f after)) in
    ap (position q) parts
    ∙ skipped q (filter p (flat_map f before)) (filter p (f k) ++ filter p (flat_map f after)) i (none_filter q p (flat_map f before) (none_flat q f before none))
    (kept q (filter p (f k)) (filter p (flat_map f after)) i there)
    ∙ ap (λ n. Some (n + i)) (length-filter p (flat_map f before) ∙ flat_count p f before)

-- sums over a range, where each number stands for an element of a list
sum_range : {X : Type 0} (g : ℕ → ℕ) (h : X → ℕ) (xs : List X) (a n : ℕ) → ((i : ℕ) (x : X) → slice_get xs i ≡ Some x → g (a + i) ≡ h x)
    → ((i : ℕ) → slice_get xs i ≡ None → g (a + i) ≡ 0) → sum_by g (range_with_len a n) ≡ sum_by h (take n xs)
sum_range g h [] a zero there none = refl
sum_range g h (x ∷ xs) a zero there none = refl
sum_range g h [] a (suc n) there none =
    let here : g a ≡ 0 = ap g (sym (add_zero a)) ∙ none 0 refl in
    let next : (i : ℕ) → g (a + 1 + i) ≡ 0 = λ i. ap g (shift a i) ∙ none (suc i) refl in
    sum_by-cons g a (range_with_len (a + 1) n) ∙ rw (here, sum_range g h [] (a + 1) n (λ i x e. absurd (none-some x e)) (λ i e. next i)) (empty n)
  where
    add_zero : (m : ℕ) → m + 0 ≡ m
    add_zero m = omega arith

    shift : (m i : ℕ) → m + 1 + i ≡ m + suc i
    shift m i = omega arith

    empty : (m : ℕ) → 0 + sum_by h (take m []) ≡ 0
    empty zero = refl
    empty (suc m) = refl
sum_range g h (x ∷ xs) a (suc n) there none =
    let here : g a ≡ h x = ap g (sym (add_zero a)) ∙ there 0 x refl in
    let rest = sum_range g h xs (a + 1) n (λ i y e. ap g (shift a i) ∙ there (suc i) y e) (λ i e. ap g (shift a i) ∙ none (suc i) e) in
    sum_by-cons g a (range_with_len (a + 1) n) ∙ rw (here, rest) (sym (sum_by-cons h x (take n xs)))
  where
    add_zero : (m : ℕ) → m + 0 ≡ m
    add_zero m = omega arith

    shift : (m i : ℕ) → m + 1 + i ≡ m + suc i
    shift m i = omega arith

-- timeslots in their order

equal : (n m : ℕ) → (n == m) ≡ true → n ≡ m
equal n m e = grind (arith, nat_tests)

same : (n : ℕ) → (n == n) ≡ true
same n = grind (arith, nat_tests)

apart : (n m : ℕ) → m < n → (n == m) ≡ false
apart n m less = grind (arith, nat_tests)

before : (n m : ℕ) → n < m → (nat_lt n m ≡ true) × (nat_lt m n ≡ false)
before n m less = (grind (arith, nat_tests), grind (arith, nat_tests))

not_before : (n m : ℕ) → m ≤ n → nat_lt n m ≡ false
not_before n m least = grind (arith, nat_tests)

pub range_order : (a n : ℕ) → IsInOrder nat_lt (range_with_len a n)
range_order a zero = tt
range_order a (suc n) = (all_range (λ y. (nat_lt a y ≡ true) × (nat_lt y a ≡ false)) (a + 1) n (λ y least most. before a y (omega arith)), range_order (a + 1) n)

-- numbers of a TRX's channels, each at most once
pub record AreSlots (slots : List ℕ) : Type 0 where
  pub range : AllByRecursion (λ n. is_in (range_with_len 0 places_of_trx) n ≡ true) slots
  pub once : has_pair (λ m n. n == m) slots ≡ false

all_count : (slots : List ℕ) → count_by (λ n. true) slots ≡ length slots
all_count [] = refl
all_count (n ∷ slots) = sum_by-cons (λ m. 1) n slots ∙ ap (λ k. 1 + k) (all_count slots) ∙ one-add (length slots)

pub slots_count : (slots : List ℕ) → AreSlots slots → count_by (is_in slots) (range_with_len 0 places_of_trx) ≡ length slots
slots_count slots are =
    sym (count_in_order nat_lt (λ n. true) (range_with_len 0 places_of_trx) slots (range_order 0 places_of_trx) are.range are.once) ∙ all_count slots

slots_prefix : (slots : List ℕ) (tn : ℕ) → AreSlots slots → tn < places_of_trx → count_by (is_in slots) (range_with_len 0 tn) ≡ count_by (λ n. nat_lt n tn) slots
slots_prefix slots tn are small =
    let test : ℕ → Bool = λ n. nat_lt n tn && is_in slots n in
    let front : count_by test (range_with_len 0 tn) ≡ count_by (is_in slots) (range_with_len 0 tn) =
    count_by_same test (is_in slots) (range_with_len 0 tn) (all_range (λ n. test n ≡ is_in slots n) 0 tn (λ n least most. ap (λ b. b && is_in slots n) (before n tn (omega arith)).0)) in
    let back : count_by test (tn ∷ range_with_len (tn + 1) (places_of_trx - tn - 1)) ≡ 0 =
    count_by_none test (tn ∷ range_with_len (tn + 1) (places_of_trx - tn - 1)) (
      and_left (nat_lt tn tn) (is_in slots tn) (not_before tn tn (omega arith)),
      all_range (λ n. test n ≡ false) (tn + 1) (places_of_trx - tn - 1) (λ n least most. and_left (nat_lt n tn) (is_in slots n) (not_before n tn (omega arith))),
    ) in
    let whole = count_in_order nat_lt (λ n. nat_lt n tn) (range_with_len 0 places_of_trx) slots (range_order 0 places_of_trx) are.range are.once in
    let parts = ap (count_by test) (split_at places_of_trx tn small) ∙ sum_by-append (λ n. cond (test n) 1 0) (range_with_len 0 tn) (tn ∷ range_with_len (tn + 1) (places_of_trx - tn - 1)) in
    omega (arith, front, back, whole, parts)

-- the channels of a TRX and of a cell, as they stand among all

numbered_channels : ℕ → ℕ → List ChanId
numbered_channels cell trx = map (channel cell trx) (range_with_len 0 places_of_trx)

cell_channels : ℕ → List ChanId
cell_channels cell = flat_map (numbered_channels cell) (range_with_len 0 most_trx)

site_channels : all_channels ≡ flat_map cell_channels (range_with_len 0 most_cells)
unfolding all_channels cell_channels numbered_channels
site_channels = λ i. flat_map (λ cell. flat_map (λ trx. by_numbers cell trx i) (range_with_len 0 most_trx)) (range_with_len 0 most_cells)

-- the test of another channel fails
other_cell : (x : ChanId) (cell trx n : ℕ) → cell < x.cell → same_chan x (channel cell trx n) ≡ false
other_cell x cell trx n less = other_chan x (channel cell trx n) (λ e. let same : x.cell ≡ cell = ap (λ y. y.cell) e in absurd (omega (arith, less, same)))

other_trx : (x : ChanId) (cell trx n : ℕ) → trx < x.trx → same_chan x (channel cell trx n) ≡ false
other_trx x cell trx n less = other_chan x (channel cell trx n) (λ e. let same : x.trx ≡ trx = ap (λ y. y.trx) e in absurd (omega (arith, less, same)))

pub is_same : (x y : ChanId) → same_chan x y ≡ true → x ≡ y
is_same = one_chan

-- where nothing is a traffic channel, none is found
pub no_index : (site : SiteView) (x : ChanId) → is_traffic site x ≡ false → index_of site x ≡ None
no_index site x none =
    none_found (same_chan x) (channels site)
    (missing (same_chan x) (is_traffic site) all_channels (λ y e. ap (is_traffic site) (sym (is_same x y e)) ∙ none))

-- what the site names of a TRX, and where there is no such TRX

-- the numbers of the traffic channels of a TRX; where there is no such TRX, none
numbers : SiteView → ℕ → ℕ → List ℕ
numbers site cell trx = unwrap_or (option_map numbers_of (trx_at site cell trx)) []

traffic_of : (site : SiteView) (cell trx n : ℕ) → is_traffic site (channel cell trx n) ≡ is_in (numbers site cell trx) n
unfolding numbers
traffic_of site cell trx n = by (trx_at site cell trx)
  where
    by : (o : Option TrxView) → is_in (unwrap_or (option_map (slots_with (part (n % 3))) o) []) (n / 3) ≡ is_in (unwrap_or (option_map numbers_of o) []) n
    by None = refl
    by (Some t) = number_in t n

traffic_by : (site : SiteView) (x : ChanId) → is_traffic site x ≡ true → is_in (numbers site x.cell x.trx) (number x) ≡ true
traffic_by site x traffic = sym (traffic_of site x.cell x.trx (number x)) ∙ ap (is_traffic site) (channel_number x) ∙ traffic

none_slots : AreSlots []
none_slots = record { range = tt; once = refl }

pub trx_slots : (site : SiteView) → IsSite site → (cell : ℕ) (c : CellView) → slice_get site.cells cell ≡ Some c → (trx : ℕ) (t : TrxView) → slice_get c.trx trx ≡ Some t → AreSlots (numbers_of t)
trx_slots site limits cell c at trx t at' =
    let is = got IsCell site.cells cell c limits.within.each_cell at in
    let (once, once') = or_parts (has_pair (λ m n. n == m) t.tch) (has_pair (λ m n. n == m) t.half)
    (none_at (λ (u : TrxView). has_pair (λ m n. n == m) u.tch || has_pair (λ m n. n == m) u.half) c.trx trx t (none_at has_slot_pair site.cells cell c (unbroken_parts site limits).3 at) at') in
    record {
      range = numbers_within t (got (λ (u : TrxView). All (IsAllowed key.Tch) u.tch) c.trx trx t is.slots at') (got (λ (u : TrxView). All (IsHalf u.tch) u.half) c.trx trx t is.halves at');
      once = numbers_once t once once';
    }

are_slots : (site : SiteView) → IsSite site → (cell trx : ℕ) → AreSlots (numbers site cell trx)
unfolding numbers
are_slots site limits cell trx = by (slice_get site.cells cell) refl
  where
    by_trx : (c : CellView) → slice_get site.cells cell ≡ Some c → (o : Option TrxView) → slice_get c.trx trx ≡ o → AreSlots (unwrap_or (option_map numbers_of o) [])
    by_trx c at None at' = none_slots
    by_trx c at (Some t) at' = trx_slots site limits cell c at trx t at'

    by : (o : Option CellView) → slice_get site.cells cell ≡ o → AreSlots (unwrap_or (option_map numbers_of (option_and_then (λ c. slice_get c.trx trx) o)) [])
    by None at = none_slots
    by (Some c) at = by_trx c at (slice_get c.trx trx) refl

-- how many traffic channels a TRX and a cell have

trx_count : (site : SiteView) → IsSite site → (cell trx : ℕ) → count_by (is_traffic site) (numbered_channels cell trx) ≡ length (numbers site cell trx)
unfolding numbered_channels
trx_count site limits cell trx =
    map_count (is_traffic site) (channel cell trx) (range_with_len 0 places_of_trx)
    ∙ count_by_same (λ n. is_traffic site (channel cell trx n)) (is_in (numbers site cell trx)) (range_with_len 0 places_of_trx)
    (all_range (λ n. is_traffic site (channel cell trx n) ≡ is_in (numbers site cell trx) n) 0 places_of_trx (λ n least most. traffic_of site cell trx n))
    ∙ slots_count (numbers site cell trx) (are_slots site limits cell trx)

trx_numbers : (site : SiteView) (cell : ℕ) (c : CellView) (trx : ℕ) → slice_get site.cells cell ≡ Some c → numbers site cell trx ≡ unwrap_or (option_map numbers_of (slice_get c.trx trx)) []
unfolding numbers
trx_numbers site cell c trx at = ap (λ o. unwrap_or (option_map numbers_of (option_and_then (λ (d : CellView). slice_get d.trx trx) o)) []) at

sizes : (site : SiteView) → IsSite site → (cell : ℕ) (c : CellView) → slice_get site.cells cell ≡ Some c → (n : ℕ)
    → sum_by (λ trx. count_by (is_traffic site) (numbered_channels cell trx)) (range_with_len 0 n) ≡ sum_by trx_size (take n c.trx)
sizes site limits cell c at n = sum_range (λ trx. count_by (is_traffic site) (numbered_channels cell trx)) trx_size c.trx 0 n there none
  where
    one : (trx : ℕ) → count_by (is_traffic site) (numbered_channels cell trx) ≡ length (unwrap_or (option_map numbers_of (slice_get c.trx trx)) [])
    one trx = trx_count site limits cell trx ∙ ap length (trx_numbers site cell c trx at)

    there : (i : ℕ) (t : TrxView) → slice_get c.trx i ≡ Some t → count_by (is_traffic site) (numbered_channels cell (0 + i)) ≡ trx_size t
    there i t at' =
        ap (λ k. count_by (is_traffic site) (numbered_channels cell k)) (zero-add i) ∙ one i ∙ ap (λ o. length (unwrap_or (option_map numbers_of o) [])) at' ∙ size_numbers t

    none : (i : ℕ) → slice_get c.trx i ≡ None → count_by (is_traffic site) (numbered_channels cell (0 + i)) ≡ 0
    none i at' = ap (λ k. count_by (is_traffic site) (numbered_channels cell k)) (zero-add i) ∙ one i ∙ ap (λ o. length (unwrap_or (option_map numbers_of o) [])) at'

cell_count : (site : SiteView) → IsSite site → (cell : ℕ) (c : CellView) → slice_get site.cells cell ≡ Some c → count_by (is_traffic site) (cell_channels cell) ≡ cell_size c
unfolding cell_channels
cell_count site limits cell c at =
    let few = (got IsCell site.cells cell c limits.within.each_cell at).trx_count.1 in
    flat_count (is_traffic site) (numbered_channels cell) (range_with_len 0 most_trx) ∙ sizes site limits cell c at most_trx ∙ ap (sum_by trx_size) (take_all most_trx c.trx few)

no_numbers : (site : SiteView) (cell trx : ℕ) → slice_get site.cells cell ≡ None → numbers site cell trx ≡ []
unfolding numbers
no_numbers site cell trx at = ap (λ o. unwrap_or (option_map numbers_of (option_and_then (λ (d : CellView). slice_get d.trx trx) o)) []) at

no_cell_count : (site : SiteView) → IsSite site → (cell : ℕ) → slice_get site.cells cell ≡ None → count_by (is_traffic site) (cell_channels cell) ≡ 0
unfolding cell_channels
no_cell_count site limits cell at =
    flat_count (is_traffic site) (numbered_channels cell) (range_with_len 0 most_trx) ∙ rw (empty 0, empty 1, empty 2, empty 3) refl
  where
    empty : (trx : ℕ) → count_by (is_traffic site) (numbered_channels cell trx) ≡ 0
    empty trx = trx_count site limits cell trx ∙ ap length (no_numbers site cell trx at)

cells_count : (site : SiteView) → IsSite site → (n : ℕ) → sum_by (λ cell. count_by (is_traffic site) (cell_channels cell)) (range_with_len 0 n) ≡ sum_by cell_size (take n site.cells)
cells_count site limits n =
    sum_range (λ cell. count_by (is_traffic site) (cell_channels cell)) cell_size site.cells 0 n
    (λ i c at. ap (λ k. count_by (is_traffic site) (cell_channels k)) (zero-add i) ∙ cell_count site limits i c at)
    (λ i at. ap (λ k. count_by (is_traffic site) (cell_channels k)) (zero-add i) ∙ no_cell_count site limits i at)

-- as many traffic channels as the sizes of all cells
pub channels_count : (site : SiteView) → IsSite site → length (channels site) ≡ sum_by cell_size site.cells
channels_count site limits =
    length-filter (is_traffic site) all_channels ∙ ap (count_by (is_traffic site)) site_channels
    ∙ flat_count (is_traffic site) cell_channels (range_with_len 0 most_cells) ∙ cells_count site limits most_cells
    ∙ ap (sum_by cell_size) (take_all most_cells site.cells limits.within.cell_count.1)

-- the position of a traffic channel: in its TRX, in its cell, in the site

only : (q p : ChanId → Bool) (x : ChanId) → p x ≡ true → q x ≡ true → position q (filter p (x ∷ [])) ≡ Some 0
only q p x traffic it = ap (λ b. position q (cond b (x ∷ []) [])) traffic ∙ position-cons q x [] ∙ ap (λ b. cond b (Some 0) (option_map suc (position q []))) it

in_trx : (site : SiteView) → IsSite site → (x : ChanId) → is_traffic site x ≡ true → x.tn < timeslots_of_trx
    → position (same_chan x) (filter (is_traffic site) (numbered_channels x.cell x.trx)) ≡ Some (count_by (λ n. nat_lt n (number x)) (numbers site x.cell x.trx))
unfolding numbered_channels
in_trx site limits x traffic low =
    let make = channel x.cell x.trx in
    let single : ℕ → List ChanId = λ n. make n ∷ [] in
    let slots = numbers site x.cell x.trx in
    let k = number x in
    let small : k < places_of_trx = number_limit x low in
    let as_parts : map make (range_with_len 0 places_of_trx) ≡ flat_map single (range_with_len 0 k ++ k ∷ range_with_len (k + 1) (places_of_trx - k - 1)) =
    sym (flat_map_single make (range_with_len 0 places_of_trx)) ∙ ap (flat_map single) (split_at places_of_trx k small) in
    let others = all_range (λ n. list_any (same_chan x) (single n) ≡ false) 0 k (λ n least most. or_from (same_chan x (make n)) false (other_number x x.cell x.trx n (omega arith)) refl) in
    let many : sum_by (λ n. count_by (is_traffic site) (single n)) (range_with_len 0 k) ≡ count_by (λ n. nat_lt n k) slots =
    sym (flat_count (is_traffic site) single (range_with_len 0 k)) ∙ ap (count_by (is_traffic site)) (flat_map_single make (range_with_len 0 k))
    ∙ map_count (is_traffic site) make (range_with_len 0 k)
    ∙ count_by_same (λ n. is_traffic site (make n)) (is_in slots) (range_with_len 0 k) (all_range (λ n. is_traffic site (make n) ≡ is_in slots n) 0 k (λ n least most. traffic_of site x.cell x.trx n))
    ∙ slots_prefix slots k (are_slots site limits x.cell x.trx) small in
    ap (λ xs. position (same_chan x) (filter (is_traffic site) xs)) as_parts
    ∙ in_part (same_chan x) (is_traffic site) single (range_with_len 0 k) k (range_with_len (k + 1) (places_of_trx - k - 1)) 0 others
    (only (same_chan x) (is_traffic site) (make k) (traffic_of site x.cell x.trx k ∙ traffic_by site x traffic) (found_itself x))
    ∙ ap (λ n. Some n) (add_zero (sum_by (λ n. count_by (is_traffic site) (single n)) (range_with_len 0 k)) ∙ many)
  where
    add_zero : (n : ℕ) → n + 0 ≡ n
    add_zero n = omega arith

in_cell : (site : SiteView) → IsSite site → (x : ChanId) (c : CellView) → slice_get site.cells x.cell ≡ Some c → is_traffic site x ≡ true → x.trx < most_trx → x.tn < timeslots_of_trx
    → position (same_chan x) (filter (is_traffic site) (cell_channels x.cell)) ≡ Some (before_in_cell x c)
unfolding cell_channels numbered_channels
in_cell site limits x c at traffic trx small =
    let others = all_range (λ t. list_any (same_chan x) (numbered_channels x.cell t) ≡ false) 0 x.trx
    (λ t least most. none_map (same_chan x) (channel x.cell t) (range_with_len 0 places_of_trx) (all_range (λ n. same_chan x (channel x.cell t n) ≡ false) 0 places_of_trx (λ n a b. other_trx x x.cell t n (omega arith)))) in
    ap (λ ns. position (same_chan x) (filter (is_traffic site) (flat_map (numbered_channels x.cell) ns))) (split_at most_trx x.trx trx)
    ∙ in_part (same_chan x) (is_traffic site) (numbered_channels x.cell) (range_with_len 0 x.trx) x.trx (range_with_len (x.trx + 1) (most_trx - x.trx - 1)) _ others (in_trx site limits x traffic small)
    ∙ ap (λ k. Some (k + count_by (λ n. nat_lt n (number x)) (numbers site x.cell x.trx))) (sizes site limits x.cell c at x.trx)
    ∙ ap (λ slots. Some (sum_by trx_size (take x.trx c.trx) + count_by (λ n. nat_lt n (number x)) slots)) (trx_numbers site x.cell c x.trx at)
    ∙ ap (λ k. Some (sum_by trx_size (take x.trx c.trx) + k)) (both (slice_get c.trx x.trx))
  where
    both : (o : Option TrxView) → count_by (λ n. nat_lt n (number x)) (unwrap_or (option_map numbers_of o) []) ≡ unwrap_or (option_map (slots_before (number x)) o) 0
    both None = refl
    both (Some t) = sym (before_numbers t (number x))

in_site : (site : SiteView) → IsSite site → (x : ChanId) (c : CellView) → slice_get site.cells x.cell ≡ Some c → is_traffic site x ≡ true → x.cell < most_cells → x.trx < most_trx → x.tn < timeslots_of_trx
    → index_of site x ≡ Some (channels_before site.cells x)
unfolding cell_channels numbered_channels
in_site site limits x c at traffic cell trx small =
    let others = all_range (λ k. list_any (same_chan x) (cell_channels k) ≡ false) 0 x.cell
    (λ k least most. none_flat (same_chan x) (numbered_channels k) (range_with_len 0 most_trx)
    (all_range (λ t. list_any (same_chan x) (numbered_channels k t) ≡ false) 0 most_trx (λ t a b. none_map (same_chan x) (channel k t) (range_with_len 0 places_of_trx) (all_range (λ n. same_chan x (channel k t n) ≡ false) 0 places_of_trx (λ n a' b'. other_cell x k t n (omega arith)))))) in
    ap (λ xs. position (same_chan x) (filter (is_traffic site) xs)) (site_channels ∙ ap (flat_map cell_channels) (split_at most_cells x.cell cell))
    ∙ in_part (same_chan x) (is_traffic site) cell_channels (range_with_len 0 x.cell) x.cell (range_with_len (x.cell + 1) (most_cells - x.cell - 1)) (before_in_cell x c) others (in_cell site limits x c at traffic trx small)
    ∙ ap (λ k. Some (k + before_in_cell x c)) (cells_count site limits x.cell)
    ∙ ap (λ o. Some (sum_by cell_size (take x.cell site.cells) + unwrap_or (option_map (before_in_cell x) o) 0)) (sym at)

-- a traffic channel stands behind as many as the sizes of what comes before it
pub index_is : (site : SiteView) → IsSite site → (x : ChanId) → is_traffic site x ≡ true → index_of site x ≡ Some (channels_before site.cells x)
index_is site limits x traffic = by (slice_get site.cells x.cell) refl
  where
    lies : IsWithinLimits x
    lies = traffic_limits site x limits traffic

    by : (o : Option CellView) → slice_get site.cells x.cell ≡ o → index_of site x ≡ Some (channels_before site.cells x)
    by None at = absurd (false≢true (ap (λ o. list_any (λ tn. tn == x.tn) (unwrap_or (option_map (slots_with x.sub) (option_and_then (λ (d : CellView). slice_get d.trx x.trx) o)) [])) (sym at) ∙ traffic))
    by (Some c) at = in_site site limits x c at traffic lies.cell lies.trx lies.timeslot
