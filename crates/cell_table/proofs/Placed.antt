-- The traffic channel that has a place: it is the one whose place that is.
use Rattle.std.proofs.Common.{◌≡◌, ◌↔◌, ◌==◌, ℕ, suc, ◌+◌, ◌-◌, ◌/◌, ◌%◌, ◌<◌, ◌≤◌, nat_lt, Bool, true, false, cond, if◌then◌else◌, ◌||◌, List, [], ◌∷◌, length, take, filter, sum_by, Option, Some, None, is_some, option_map, option_and_then, unwrap_or, slice_get, get_or, refl, sym, ◌∙◌, ap, subst, zero-add, arith}
use Rattle.std.proofs.lemmas.Bool.{false≢true, or_left, or_right}
use Rattle.std.proofs.lemmas.Bool.Decides.{nat_tests}
use Rattle.std.proofs.lemmas.Option.{same_Some, none-some, slice_get_within, slice_get-get_or}
use Rattle.std.proofs.lemmas.List.Sums.{sum_by-cons, length-filter}
use Rattle.std.specs.List.{find, range_with_len}
use Rattle.timeslots.specs.declared.Sub.{Sub}
use Rattle.timeslots.specs.declared.Sub.TheVariants.{Full, Half0, Half1}
use Rattle.channel_fsm.specs.declared.ChanId.{ChanId}
use Rattle.channel_fsm.specs.Keys.{same_chan}
use Rattle.cell_table.specs.Site.{TrxView, CellView, SiteView, IsSite, slots_with, is_traffic, channels, index_of}
use Rattle.cell_table.specs.Searches.{trx_size, cell_size, number_of, slots_before, before_in_cell, channels_before, part_at, first_of, chan_with, at_place, trx_channel, cell_channel}
use Rattle.cell_table.proofs.Ordered.{is_in, count_in_order, comes_after}
use Rattle.cell_table.proofs.PartFacts.{places_of_trx, part, number_channel, numbers_of, number_in, before_numbers, size_numbers}
use Rattle.cell_table.proofs.Positions.{position_is}
use Rattle.cell_table.proofs.Counted.{AreSlots, slots_count, range_order, trx_slots, is_same, channels_count, index_is}

-- numbers

equal : (n m : ℕ) → (n == m) ≡ true → n ≡ m
equal n m e = grind (arith, nat_tests)

same : (n m : ℕ) → n ≡ m → (n == m) ≡ true
same n m e = grind (arith, nat_tests)

less : (n m : ℕ) → nat_lt n m ≡ true → n < m
less n m e = grind (arith, nat_tests)

least : (n m : ℕ) → nat_lt n m ≡ false → m ≤ n
least n m e = grind (arith, nat_tests)

not_itself : (n : ℕ) → nat_lt n n ≡ false
not_itself n = grind (arith, nat_tests)

add_zero : (n : ℕ) → n + 0 ≡ n
add_zero n = omega arith

shift : (n k : ℕ) → n + 1 + k ≡ n + suc k
shift n k = omega arith

joined : (place size rest before left : ℕ) → size ≤ place → place - size ≡ before + left → rest ≡ size + before → place ≡ rest + left
joined place size rest before left few behind whole = omega (arith, few, behind, whole)

behind : (place size rest total : ℕ) → size ≤ place → place < total → total ≡ size + rest → place - size < rest
behind place size rest total few within whole = omega (arith, few, within, whole)

-- the element of a list that has a place, and what it tells
record IsTold {A B : Type 0} (size : A → ℕ) (tell : ℕ → A → ℕ → Option B) (n : ℕ) (xs : List A) (place : ℕ) (y : B) : Type 0 where
  number : ℕ
  element : A
  left : ℕ
  at : slice_get xs number ≡ Some element
  before : place ≡ sum_by size (take number xs) + left
  says : tell (n + number) element left ≡ Some y

told_by : {A B : Type 0} (size : A → ℕ) (tell : ℕ → A → ℕ → Option B) (n : ℕ) (x : A) (xs : List A) (place : ℕ) (y : B)
    → (at_place size tell (n + 1) xs (place - size x) ≡ Some y → IsTold size tell (n + 1) xs (place - size x) y)
    → (b : Bool) → nat_lt place (size x) ≡ b → (if b then tell n x place else at_place size tell (n + 1) xs (place - size x)) ≡ Some y
    → IsTold size tell n (x ∷ xs) place y
told_by size tell n x xs place y further true is e =
    record { number = 0; element = x; left = place; at = refl; before = sym (zero-add place); says = ap (λ k. tell k x place) (add_zero n) ∙ e }
told_by size tell n x xs place y further false is e =
    let found = further e in
    let more : sum_by size (take (suc found.number) (x ∷ xs)) ≡ size x + sum_by size (take found.number xs) = sum_by-cons size x (take found.number xs) in
    record {
      number = suc found.number;
      element = found.element;
      left = found.left;
      at = found.at;
      before = joined place (size x) _ (sum_by size (take found.number xs)) found.left (least place (size x) is) found.before more;
      says = ap (λ k. tell k found.element found.left) (sym (shift n found.number)) ∙ found.says;
    }

told : {A B : Type 0} (size : A → ℕ) (tell : ℕ → A → ℕ → Option B) (n : ℕ) (xs : List A) (place : ℕ) (y : B) → at_place size tell n xs place ≡ Some y → IsTold size tell n xs place y
told size tell n [] place y e = absurd (none-some y e)
told size tell n (x ∷ xs) place y e = told_by size tell n x xs place y (λ later. told size tell (n + 1) xs (place - size x) y later) (nat_lt place (size x)) refl e

-- where each element tells something of its places, something is told of all
some_told : {A B : Type 0} (size : A → ℕ) (tell : ℕ → A → ℕ → Option B) (n : ℕ) (xs : List A)
    → ((k : ℕ) (x : A) (left : ℕ) → slice_get xs k ≡ Some x → left < size x → is_some (tell (n + k) x left) ≡ true)
    → (place : ℕ) → place < sum_by size xs → is_some (at_place size tell n xs place) ≡ true
some_told size tell n [] each place within = absurd (omega (arith, within))
some_told size tell n (x ∷ xs) each place within =
    by (nat_lt place (size x)) refl
    (some_told size tell (n + 1) xs (λ k z left at few. ap (λ m. is_some (tell m z left)) (shift n k) ∙ each (suc k) z left at few) (place - size x))
  where
    by : (b : Bool) → nat_lt place (size x) ≡ b → (place - size x < sum_by size xs → is_some (at_place size tell (n + 1) xs (place - size x)) ≡ true)
        → is_some (if b then tell n x place else at_place size tell (n + 1) xs (place - size x)) ≡ true
    by true is further = ap (λ m. is_some (tell m x place)) (sym (add_zero n)) ∙ each 0 x place refl (less place (size x) is)
    by false is further = further (behind place (size x) (sum_by size xs) (sum_by size (x ∷ xs)) (least place (size x) is) within (sum_by-cons size x xs))

-- the first number that passes a test

found_by : (test : ℕ → Bool) (x y : ℕ) (xs : List ℕ) → (find test xs ≡ Some y → (is_in xs y ≡ true) × (test y ≡ true)) → (b : Bool) → test x ≡ b → cond b (Some x) (find test xs) ≡ Some y
    → (is_in (x ∷ xs) y ≡ true) × (test y ≡ true)
found_by test x y xs further true is e =
    let here = same_Some x y e in
    (or_left (x == y) (is_in xs y) (same x y here), ap test (sym here) ∙ is)
found_by test x y xs further false is e =
    let (there, passes) = further e in
    (or_right (x == y) (is_in xs y) there, passes)

found : (test : ℕ → Bool) (xs : List ℕ) (y : ℕ) → find test xs ≡ Some y → (is_in xs y ≡ true) × (test y ≡ true)
found test [] y e = absurd (none-some y e)
found test (x ∷ xs) y e = found_by test x y xs (λ later. found test xs y later) (test x) refl e

some_found : (test : ℕ → Bool) (xs : List ℕ) (y : ℕ) → is_in xs y ≡ true → test y ≡ true → is_some (find test xs) ≡ true
some_found test [] y there passes = absurd (false≢true there)
some_found test (x ∷ xs) y there passes = by (test x) refl (x == y) refl (λ later. some_found test xs y later passes)
  where
    by : (b : Bool) → test x ≡ b → (here : Bool) → (x == y) ≡ here → (is_in xs y ≡ true → is_some (find test xs) ≡ true) → is_some (cond b (Some x) (find test xs)) ≡ true
    by true is here at later = refl
    by false is true at later = absurd (false≢true (sym is ∙ ap test (equal x y at) ∙ passes))
    by false is false at later = later (sym (ap (λ b. b || is_in xs y) at) ∙ there)

-- the channel that has a place in a TRX

chan : ℕ → ℕ → ℕ → Sub → ChanId
chan cell trx tn sub = record { cell = cell; trx = trx; tn = tn; sub = sub }

record IsOfTrx (cell trx : ℕ) (t : TrxView) (place : ℕ) (x : ChanId) : Type 0 where
  tn : ℕ
  sub : Sub
  there : is_in (slots_with sub t) tn ≡ true
  count : slots_before (number_of tn sub) t ≡ place
  is : chan cell trx tn sub ≡ x

part_found : (sub : Sub) (t : TrxView) (slots : List ℕ) (place tn : ℕ) → part_at sub t slots place ≡ Some tn → (is_in slots tn ≡ true) × (slots_before (number_of tn sub) t ≡ place)
part_found sub t slots place tn e =
    let (there, passes) = found (λ m. slots_before (number_of m sub) t == place) slots tn e in
    (there, equal (slots_before (number_of tn sub) t) place passes)

of_trx : (cell trx : ℕ) (t : TrxView) (place : ℕ) (x : ChanId) → trx_channel cell trx t place ≡ Some x → IsOfTrx cell trx t place x
unfolding chan
of_trx cell trx t place x = by (part_at Full t t.tch place) refl (part_at Half0 t t.half place) refl (part_at Half1 t t.half place) refl
  where
    made : (sub : Sub) (tn : ℕ) → part_at sub t (slots_with sub t) place ≡ Some tn → Some (chan cell trx tn sub) ≡ Some x → IsOfTrx cell trx t place x
    made sub tn at e =
        let (there, count) = part_found sub t (slots_with sub t) place tn at in
        record { tn = tn; sub = sub; there = there; count = count; is = same_Some (chan cell trx tn sub) x e }

    by : (o0 : Option ℕ) → part_at Full t t.tch place ≡ o0 → (o1 : Option ℕ) → part_at Half0 t t.half place ≡ o1 → (o2 : Option ℕ) → part_at Half1 t t.half place ≡ o2
        → first_of (chan_with cell trx Full o0) (first_of (chan_with cell trx Half0 o1) (chan_with cell trx Half1 o2)) ≡ Some x → IsOfTrx cell trx t place x
    by (Some tn) e0 o1 e1 o2 e2 e = made Full tn e0 e
    by None e0 (Some tn) e1 o2 e2 e = made Half0 tn e1 e
    by None e0 None e1 (Some tn) e2 e = made Half1 tn e2 e
    by None e0 None e1 None e2 e = absurd (none-some x e)

mapped_some : {A B : Type 0} (f : A → B) (o : Option A) → is_some o ≡ true → is_some (option_map f o) ≡ true
mapped_some f None e = e
mapped_some f (Some a) e = refl

first_left : (o p : Option ChanId) → is_some o ≡ true → is_some (first_of o p) ≡ true
first_left None p e = absurd (false≢true e)
first_left (Some x) p e = refl

first_right : (o p : Option ChanId) → is_some p ≡ true → is_some (first_of o p) ≡ true
first_right None p e = e
first_right (Some x) p e = refl

one_there : (cell trx : ℕ) (t : TrxView) (place : ℕ) (sub : Sub) → is_some (part_at sub t (slots_with sub t) place) ≡ true → is_some (trx_channel cell trx t place) ≡ true
unfolding chan
one_there cell trx t place Full e = first_left (chan_with cell trx Full (part_at Full t t.tch place)) _ (mapped_some (λ tn. chan cell trx tn Full) (part_at Full t t.tch place) e)
one_there cell trx t place Half0 e =
    first_right (chan_with cell trx Full (part_at Full t t.tch place)) _
    (first_left (chan_with cell trx Half0 (part_at Half0 t t.half place)) _ (mapped_some (λ tn. chan cell trx tn Half0) (part_at Half0 t t.half place) e))
one_there cell trx t place Half1 e =
    first_right (chan_with cell trx Full (part_at Full t t.tch place)) _
    (first_right (chan_with cell trx Half0 (part_at Half0 t t.half place)) _ (mapped_some (λ tn. chan cell trx tn Half1) (part_at Half1 t t.half place) e))

slot_there : (cell trx : ℕ) (t : TrxView) → AreSlots (numbers_of t) → (place : ℕ) → place < trx_size t → is_some (trx_channel cell trx t place) ≡ true
slot_there cell trx t are place within =
    let slots = numbers_of t in
    let order = range_with_len 0 places_of_trx in
    let sorted = filter (is_in slots) order in
    let long : length sorted ≡ trx_size t = length-filter (is_in slots) order ∙ slots_count slots are ∙ size_numbers t in
    let n = get_or sorted place 0 in
    let at : slice_get sorted place ≡ Some n = slice_get-get_or sorted place 0 (subst (λ m. place < m) (sym long) within) in
    let comes = comes_after nat_lt not_itself (is_in slots) n place order (range_order 0 places_of_trx) at in
    let sub = part (n % 3) in
    let counted = count_in_order nat_lt (λ m. nat_lt m n) order slots (range_order 0 places_of_trx) are.range are.once ∙ comes.count in
    let before : slots_before (number_of (n / 3) sub) t ≡ place = ap (λ m. slots_before m t) (number_channel cell trx n) ∙ before_numbers t n ∙ counted in
    one_there cell trx t place sub
    (some_found (λ m. slots_before (number_of m sub) t == place) (slots_with sub t) (n / 3) (number_in t n ∙ comes.passes)
    (same (slots_before (number_of (n / 3) sub) t) place before))

-- the channel that has a place in a cell

record IsOfCell (cell : ℕ) (c : CellView) (place : ℕ) (x : ChanId) : Type 0 where
  number : ℕ
  tn : ℕ
  sub : Sub
  trx : TrxView
  at : slice_get c.trx number ≡ Some trx
  there : is_in (slots_with sub trx) tn ≡ true
  before : place ≡ sum_by trx_size (take number c.trx) + slots_before (number_of tn sub) trx
  is : chan cell number tn sub ≡ x

of_cell : (cell : ℕ) (c : CellView) (place : ℕ) (x : ChanId) → cell_channel cell c place ≡ Some x → IsOfCell cell c place x
of_cell cell c place x e =
    let t = told trx_size (trx_channel cell) 0 c.trx place x e in
    let of = of_trx cell (0 + t.number) t.element t.left x t.says in
    record {
      number = t.number;
      tn = of.tn;
      sub = of.sub;
      trx = t.element;
      at = t.at;
      there = of.there;
      before = t.before ∙ ap (λ k. sum_by trx_size (take t.number c.trx) + k) (sym of.count);
      is = ap (λ k. chan cell k of.tn of.sub) (sym (zero-add t.number)) ∙ of.is;
    }

-- a traffic channel stands behind as many as come before it
index_of_named : (site : SiteView) → IsSite site → (index cell number tn : ℕ) (sub : Sub) (c : CellView) (t : TrxView) → slice_get site.cells cell ≡ Some c → slice_get c.trx number ≡ Some t
    → is_in (slots_with sub t) tn ≡ true → index ≡ sum_by cell_size (take cell site.cells) + (sum_by trx_size (take number c.trx) + slots_before (number_of tn sub) t)
    → index_of site (chan cell number tn sub) ≡ Some index
unfolding chan
index_of_named site limits index cell number tn sub c t at at' there before =
    index_is site limits (chan cell number tn sub) traffic ∙ ap (λ n. Some n) (counted ∙ sym before)
  where
    traffic : is_traffic site (chan cell number tn sub) ≡ true
    traffic =
        ap (λ o. is_in (unwrap_or (option_map (slots_with sub) (option_and_then (λ (d : CellView). slice_get d.trx number) o)) []) tn) at
        ∙ ap (λ o. is_in (unwrap_or (option_map (slots_with sub) o) []) tn) at' ∙ there

    counted : channels_before site.cells (chan cell number tn sub) ≡ sum_by cell_size (take cell site.cells) + (sum_by trx_size (take number c.trx) + slots_before (number_of tn sub) t)
    counted =
        ap (λ o. sum_by cell_size (take cell site.cells) + unwrap_or (option_map (before_in_cell (chan cell number tn sub)) o) 0) at
        ∙ ap (λ o. sum_by cell_size (take cell site.cells) + (sum_by trx_size (take number c.trx) + unwrap_or (option_map (slots_before (number_of tn sub)) o) 0)) at'

indexed : (site : SiteView) → IsSite site → (index : ℕ) (x : ChanId) → at_place cell_size cell_channel 0 site.cells index ≡ Some x → index_of site x ≡ Some index
indexed site limits index x e =
    let told_of = told cell_size cell_channel 0 site.cells index x e in
    let of = of_cell (0 + told_of.number) told_of.element told_of.left x told_of.says in
    let before = told_of.before ∙ ap (λ k. sum_by cell_size (take told_of.number site.cells) + k) of.before in
    let is : chan told_of.number of.number of.tn of.sub ≡ x = ap (λ k. chan k of.number of.tn of.sub) (sym (zero-add told_of.number)) ∙ of.is in
    subst (λ y. index_of site y ≡ Some index) is (index_of_named site limits index told_of.number of.number of.tn of.sub told_of.element of.trx told_of.at of.at of.there before)

-- each place below the number of channels has one
some_there : (site : SiteView) → IsSite site → (index : ℕ) → index < sum_by cell_size site.cells → is_some (at_place cell_size cell_channel 0 site.cells index) ≡ true
some_there site limits index within =
    some_told cell_size cell_channel 0 site.cells
    (λ cell c left at few. some_told trx_size (trx_channel (0 + cell)) 0 c.trx
    (λ number t left' at' few'. slot_there (0 + cell) (0 + number) t (trx_slots site limits cell c at number t at') left' few')
    left few)
    index within

index_at : (site : SiteView) (x : ChanId) (index : ℕ) → index_of site x ≡ Some index → slice_get (channels site) index ≡ Some x
index_at site x index e =
    let at = position_is (same_chan x) (channels site) index e in
    at.there ∙ ap (λ y. Some y) (sym (is_same x at.element at.passes))

listed_there : (site : SiteView) → IsSite site → (index : ℕ) (x : ChanId) → slice_get (channels site) index ≡ Some x → is_some (at_place cell_size cell_channel 0 site.cells index) ≡ true
listed_there site limits index x at = some_there site limits index (subst (λ n. index < n) (channels_count site limits) (slice_get_within (channels site) index x at))

-- the channel that has a place is the one that stands there in the list of traffic channels
pub placed : (site : SiteView) → IsSite site → (index : ℕ) → at_place cell_size cell_channel 0 site.cells index ≡ slice_get (channels site) index
placed site limits index = by (at_place cell_size cell_channel 0 site.cells index) refl (slice_get (channels site) index) refl
  where
    by : (o : Option ChanId) → at_place cell_size cell_channel 0 site.cells index ≡ o → (p : Option ChanId) → slice_get (channels site) index ≡ p → o ≡ p
    by (Some x) is p at = sym (index_at site x index (indexed site limits index x is)) ∙ at
    by None is None at = refl
    by None is (Some x) at = absurd (false≢true (sym (ap is_some is) ∙ listed_there site limits index x at))

-- and the one whose place that is
pub placed_by_index : (site : SiteView) → IsSite site → (index : ℕ) (x : ChanId) → (at_place cell_size cell_channel 0 site.cells index ≡ Some x) ↔ (index_of site x ≡ Some index)
placed_by_index site limits index x = (indexed site limits index x, λ e. placed site limits index ∙ index_at site x index e)
