-- What is kept of a site file says what the file says: of a TRX's timeslots the first nine are kept, and where there are more,
-- one stands twice among those nine. So the site is refused for it, or for what is looked at before.
use Rattle.std.proofs.Common.{◌≡◌, ◌==◌, ◌||◌, ◌<◌, ◌≤◌, ℕ, suc, Bool, true, false, List, [], ◌∷◌, ◌++◌, map, length, get_or, take, Option, Ok, Err, All, refl, sym, ap, ◌∙◌, inl, inr, arith}
use Rattle.std.specs.List.{list_any, position}
use Rattle.std.proofs.lemmas.Bool.{cases_Bool, false≢true, or_parts}
use Rattle.std.proofs.lemmas.List.{take_all, length-take-le}
use Rattle.std.proofs.lemmas.List.Elements.{All-head, All-tail, All-take}
use Rattle.toml.specs.Data.{Data, get}
use Rattle.cell_table.specs.declared.fault.Key.TheVariants as key
use Rattle.cell_table.specs.declared.tables.CellIdentity.{CellIdentity}
use Rattle.cell_table.specs.declared.tables.HandoverRule.{HandoverRule}
use Rattle.cell_table.specs.Ranges.{arfcn_range, tch_range, IsAllowed}
use Rattle.cell_table.specs.Site.{TrxView, CellView, SiteView, IsCell}
use Rattle.cell_table.specs.Rules.{same_codes, same_colour, identities, has_no_traffic, first_broken, unbroken, checked}
use Rattle.cell_table.specs.Searches.{has_pair, has_carrier_pair, slot_pair, has_slot_pair, has_neighbour_pair, broken_by_pairs}
use Rattle.cell_table.specs.SiteFile.{Read, ◌>>=◌, value_at, number_of, number_within, number_at, array_of, tables_of, each, key_name, handover_at, identity_of, ba_of, tch_of, half_of, trx_of, all_trx_of, cell_of, cells_of, outside_of, site_of}
use Rattle.cell_table.specs.Kept.{trx_by, kept_slots, kept_trx, kept_trx_list, kept_cell, kept_cells, kept_site}
use Rattle.cell_table.proofs.Each.{finished}
use Rattle.cell_table.proofs.Twice.{found_by_pairs}
use Rattle.cell_table.proofs.Nine.{few_once}
use Rattle.cell_table.proofs.SiteFacts.{cell_list}

-- what is kept of a TRX, and of a cell
abbrev cut_trx : TrxView → TrxView
cut_trx t = record { arfcn = t.arfcn; tch = take 9 t.tch; half = take 9 t.half }

abbrev cut_cell : CellView → CellView
cut_cell c = record { identity = c.identity; power = c.power; ba = c.ba; trx = map cut_trx c.trx }

-- a check that reads the same, before one of which a part is kept; and one of which a part is kept itself
bind_same : {A B C : Type 0} (cut : B → C) (r : Read A) (f : A → Read B) (f' : A → Read C) → ((x : A) → f' x ≡ finished cut (f x))
    → (r >>= f') ≡ finished cut (r >>= f)
bind_same cut (Ok x) f f' same = same x
bind_same cut (Err fault) f f' same = refl

same_after : {A B : Type 0} (r : Read A) (f g : A → Read B) → ((x : A) → f x ≡ g x) → (r >>= f) ≡ (r >>= g)
same_after (Ok x) f g same = same x
same_after (Err fault) f g same = refl

bind_cut : {A A' B B' : Type 0} (part : A → A') (cut : B → B') (r : Read A) (f : A → Read B) (f' : A' → Read B') → ((x : A) → f' (part x) ≡ finished cut (f x))
    → (finished part r >>= f') ≡ finished cut (r >>= f)
bind_cut part cut (Ok x) f f' same = same x
bind_cut part cut (Err fault) f f' same = refl

each_cut : {A B : Type 0} (cut : A → B) (read : ℕ → Data → Read A) (read' : ℕ → Data → Read B) → ((n : ℕ) (d : Data) → read' n d ≡ finished cut (read n d))
    → (n : ℕ) (ds : List Data) → each read' n ds ≡ finished (map cut) (each read n ds)
each_cut cut read read' same n [] = refl
each_cut cut read read' same n (d ∷ ds) =
    ap (λ r. r >>= (λ y. each read' (suc n) ds >>= (λ ys. Ok (y ∷ ys)))) (same n d)
    ∙ bind_cut cut (map cut) (read n d) (λ x. each read (suc n) ds >>= (λ xs. Ok (x ∷ xs))) (λ y. each read' (suc n) ds >>= (λ ys. Ok (y ∷ ys)))
    (λ x. ap (λ r. r >>= (λ ys. Ok (cut x ∷ ys))) (each_cut cut read read' same (suc n) ds)
    ∙ bind_cut (map cut) (map cut) (each read (suc n) ds) (λ xs. Ok (x ∷ xs)) (λ ys. Ok (cut x ∷ ys)) (λ xs. refl))

bind_assoc : {A B C : Type 0} (r : Read A) (f : A → Read B) (g : B → Read C) → ((r >>= f) >>= g) ≡ (r >>= (λ x. f x >>= g))
bind_assoc (Ok x) f g = refl
bind_assoc (Err fault) f g = refl

-- the entries of `tch` are looked at once more for the timeslots that also carry halves
slots_same : (arfcn : ℕ) (first : Bool) (d : Data)
    → kept_slots arfcn first d ≡ (tch_of first d >>= (λ tch. finished (λ slots. take 9 slots) (half_of tch d) >>= (λ half. Ok (record { arfcn = arfcn; tch = take 9 tch; half = half }))))
unfolding kept_slots trx_by tch_of
slots_same arfcn first d =
    let rest : List ℕ → Read TrxView = λ tch. finished (λ slots. take 9 slots) (half_of tch d) >>= (λ half. Ok (record { arfcn = arfcn; tch = take 9 tch; half = half })) in
    let entries : Data → Read (List ℕ) = λ value. array_of key.Tch value >>= (λ ds. each (λ place. number_of key.Tch (tch_range first)) 0 ds) in
    sym (bind_assoc (value_at key.Tch d) entries rest
    ∙ same_after (value_at key.Tch d) (λ value. entries value >>= rest) _ (λ value. bind_assoc (array_of key.Tch value) (λ ds. each (λ place. number_of key.Tch (tch_range first)) 0 ds) rest))

trx_cut : (bcch : ℕ) (first : Bool) (d : Data) → kept_trx bcch first d ≡ finished cut_trx (trx_of bcch first d)
unfolding kept_trx trx_of
trx_cut bcch first d =
    bind_same cut_trx (number_within key.Arfcn (arfcn_range bcch first) d) _ _
    (λ arfcn. slots_same arfcn first d ∙ bind_same cut_trx (tch_of first d) _ _
    (λ tch. bind_cut (λ slots. take 9 slots) cut_trx (half_of tch d) _ _ (λ half. refl)))

trx_list_cut : (bcch : ℕ) (d : Data) → kept_trx_list bcch d ≡ finished (map cut_trx) (all_trx_of bcch d)
unfolding kept_trx_list all_trx_of
trx_list_cut bcch d =
    bind_same (map cut_trx) (value_at key.Trx d) _ _
    (λ value. bind_same (map cut_trx) (tables_of key.Trx value) _ _
    (λ entries. each_cut cut_trx (λ place. trx_of bcch (place == 0)) (λ place. kept_trx bcch (place == 0)) (λ n d'. trx_cut bcch (n == 0) d') 0 entries))

cell_cut : (d : Data) → kept_cell d ≡ finished cut_cell (cell_of d)
unfolding kept_cell cell_of
cell_cut d =
    bind_same cut_cell (identity_of d) _ _
    (λ identity. bind_same cut_cell (number_at key.Power d) _ _
    (λ power. bind_same cut_cell (ba_of d) _ _
    (λ ba.
    let whole : List TrxView → Read CellView = λ trx. Ok (record { identity = identity; power = power; ba = ba; trx = trx }) in
    ap (λ r. r >>= whole) (trx_list_cut identity.bcch d)
    ∙ bind_cut (map cut_trx) cut_cell (all_trx_of identity.bcch d) whole whole (λ trx. refl))))

cells_cut : (d : Data) → kept_cells d ≡ finished (map cut_cell) (cells_of d)
unfolding kept_cells cells_of
cells_cut d =
    bind_same (map cut_cell) (value_at key.Cell d) _ _
    (λ value. bind_same (map cut_cell) (tables_of key.Cell value) _ _
    (λ entries. each_cut cut_cell (λ place. cell_of) (λ place. kept_cell) (λ n d'. cell_cut d') 0 entries))

-- timeslots

below : (slots : List ℕ) → All (IsAllowed key.Tch) slots → All (λ n. n < 8) slots
below slots all = λ i x within.
    let least : get_or slots i x ≤ 7 = (all i x within).1 in
    omega (arith, least)

all_kept : (slots : List ℕ) → All (IsAllowed key.Tch) slots → has_pair (λ m n. n == m) slots ≡ false → take 9 slots ≡ slots
all_kept slots all once =
    let few = few_once slots (below slots all) once in
    take_all 9 slots (omega (arith, few))

still_twice : (slots : List ℕ) → All (IsAllowed key.Tch) slots → has_pair (λ m n. n == m) slots ≡ true → has_pair (λ m n. n == m) (take 9 slots) ≡ true
still_twice slots all twice =
    elim (cases_Bool (has_pair (λ m n. n == m) (take 9 slots))) [
      | inl found ↦ found
      | inr none ↦
          let few = few_once (take 9 slots) (All-take (λ n. n < 8) 9 slots (below slots all)) none in
          let whole = take_all 9 slots (short (length slots) (λ long. length-take-le 9 slots long) few) in
          absurd (false≢true (sym none ∙ ap (λ some. has_pair (λ m n. n == m) some) whole ∙ twice))
    ]
  where
    short : (n : ℕ) → (9 ≤ n → length (take 9 slots) ≡ 9) → length (take 9 slots) ≤ 8 → n ≤ 9
    short n full few = grind arith

-- lists of which each element is kept in part

or_true : (b : Bool) → (b || true) ≡ true
or_true true = refl
or_true false = refl

map_kept : {A : Type 0} (P : A → Type 0) (twice : A → Bool) (cut : A → A) → ((x : A) → P x → twice x ≡ false → cut x ≡ x)
    → (xs : List A) → All P xs → list_any twice xs ≡ false → map cut xs ≡ xs
map_kept P twice cut same [] all once = refl
map_kept P twice cut same (x ∷ xs) all once =
    let (here, rest) = or_parts (twice x) (list_any twice xs) once in
    (λ i. same x (All-head P x xs all) here i ∷ map_kept P twice cut same xs (All-tail P x xs all) rest i)

any_still : {A : Type 0} (P : A → Type 0) (twice : A → Bool) (cut : A → A) → ((x : A) → P x → twice x ≡ true → twice (cut x) ≡ true)
    → (xs : List A) → All P xs → list_any twice xs ≡ true → list_any twice (map cut xs) ≡ true
any_still P twice cut still [] all found = absurd (false≢true found)
any_still P twice cut still (x ∷ xs) all found =
    elim (cases_Bool (twice x)) [
      | inl here ↦ ap (λ b. b || list_any twice (map cut xs)) (still x (All-head P x xs all) here)
      | inr none ↦
          let rest = any_still P twice cut still xs (All-tail P x xs all) (sym (ap (λ b. b || list_any twice xs) none) ∙ found) in
          ap (λ b. twice (cut x) || b) rest ∙ or_true (twice (cut x))
    ]

any_cut : {A : Type 0} (p : A → Bool) (cut : A → A) → ((x : A) → p (cut x) ≡ p x) → (xs : List A) → list_any p (map cut xs) ≡ list_any p xs
any_cut p cut same [] = refl
any_cut p cut same (x ∷ xs) = (λ i. same x i || any_cut p cut same xs i)

-- what the rules find of a site of which the first nine timeslots of each TRX are kept

abbrev HasSlots : TrxView → Type 0
HasSlots t = All (IsAllowed key.Tch) t.tch × All (IsAllowed key.Tch) t.half

slots_kept : (t : TrxView) → HasSlots t → slot_pair t ≡ false → cut_trx t ≡ t
slots_kept t slots none =
    let (once, once') = or_parts (has_pair (λ m n. n == m) t.tch) (has_pair (λ m n. n == m) t.half) none in
    λ i. record { arfcn = t.arfcn; tch = all_kept t.tch slots.0 once i; half = all_kept t.half slots.1 once' i }

slots_twice : (t : TrxView) → HasSlots t → slot_pair t ≡ true → slot_pair (cut_trx t) ≡ true
slots_twice t slots twice =
    elim (cases_Bool (has_pair (λ m n. n == m) t.tch)) [
      | inl found ↦ ap (λ b. b || has_pair (λ m n. n == m) (take 9 t.half)) (still_twice t.tch slots.0 found)
      | inr none ↦
          let rest = still_twice t.half slots.1 (sym (ap (λ b. b || has_pair (λ m n. n == m) t.half) none) ∙ twice) in
          ap (λ b. has_pair (λ m n. n == m) (take 9 t.tch) || b) rest ∙ or_true (has_pair (λ m n. n == m) (take 9 t.tch))
    ]

has_slots : (c : CellView) → IsCell c → All HasSlots c.trx
has_slots c is = λ i x within. (is.slots i x within, λ j n inside. (is.halves i x within j n inside).range)

cell_kept : (c : CellView) → IsCell c → has_slot_pair c ≡ false → cut_cell c ≡ c
cell_kept c is once =
    let same = map_kept HasSlots slot_pair cut_trx slots_kept c.trx (has_slots c is) once in
    (λ i. record { identity = c.identity; power = c.power; ba = c.ba; trx = same i })

cell_twice : (c : CellView) → IsCell c → has_slot_pair c ≡ true → has_slot_pair (cut_cell c) ≡ true
cell_twice c is twice = any_still HasSlots slot_pair cut_trx slots_twice c.trx (has_slots c is) twice

carriers_cut : (trx : List TrxView) → has_pair (λ s t. t.arfcn == s.arfcn) (map cut_trx trx) ≡ has_pair (λ s t. t.arfcn == s.arfcn) trx
carriers_cut [] = refl
carriers_cut (t ∷ trx) = (λ i. any_cut (λ (u : TrxView). u.arfcn == t.arfcn) cut_trx (λ u. refl) trx i || carriers_cut trx i)

identities_cut : (cells : List CellView) → map (λ c. c.identity) (map cut_cell cells) ≡ map (λ c. c.identity) cells
identities_cut [] = refl
identities_cut (c ∷ cells) = (λ i. c.identity ∷ identities_cut cells i)

-- where a timeslot stands twice, what comes after that rule isn't looked at
slot_refused : (codes colour carrier neighbour neighbour' : Bool) (silent silent' : Option ℕ) (one other : SiteView)
    → unbroken one (first_broken codes colour carrier true neighbour silent) ≡ unbroken other (first_broken codes colour carrier true neighbour' silent')
slot_refused true colour carrier neighbour neighbour' silent silent' one other = refl
slot_refused false true carrier neighbour neighbour' silent silent' one other = refl
slot_refused false false true neighbour neighbour' silent silent' one other = refl
slot_refused false false false neighbour neighbour' silent silent' one other = refl

both_refused : (site kept : SiteView) → identities kept ≡ identities site → list_any has_carrier_pair kept.cells ≡ list_any has_carrier_pair site.cells
    → list_any has_slot_pair kept.cells ≡ true → list_any has_slot_pair site.cells ≡ true
    → unbroken kept (broken_by_pairs kept) ≡ unbroken site (broken_by_pairs site)
unfolding broken_by_pairs
both_refused site kept same carriers still twice =
    (λ i. unbroken kept (first_broken (has_pair same_codes (same i)) (has_pair same_colour (same i)) (carriers i) (still i) (list_any has_neighbour_pair kept.cells) (position has_no_traffic kept.cells)))
    ∙ slot_refused (has_pair same_codes (identities site)) (has_pair same_colour (identities site)) (list_any has_carrier_pair site.cells)
    (list_any has_neighbour_pair kept.cells) (list_any has_neighbour_pair site.cells) (position has_no_traffic kept.cells) (position has_no_traffic site.cells) kept site
    ∙ (λ i. unbroken site (first_broken (has_pair same_codes (identities site)) (has_pair same_colour (identities site)) (list_any has_carrier_pair site.cells) (sym twice i)
    (list_any has_neighbour_pair site.cells) (position has_no_traffic site.cells)))

checked_cut : (handover : HandoverRule) (cells : List CellView) (outside : List CellIdentity) → All IsCell cells
    → checked (record { handover = handover; cells = map cut_cell cells; outside = outside }) ≡ checked (record { handover = handover; cells = cells; outside = outside })
checked_cut handover cells outside all =
    let having : List CellView → SiteView = λ own. record { handover = handover; cells = own; outside = outside } in
    elim (cases_Bool (list_any has_slot_pair cells)) [
      | inl twice ↦
          let site : SiteView = having cells in
          let kept : SiteView = having (map cut_cell cells) in
          ap (λ broken. unbroken kept broken) (found_by_pairs kept)
          ∙ both_refused site kept (ap (λ own. own ++ outside) (identities_cut cells)) (any_cut has_carrier_pair cut_cell (λ c. carriers_cut c.trx) cells)
          (any_still IsCell has_slot_pair cut_cell cell_twice cells all twice) twice
          ∙ ap (λ broken. unbroken site broken) (sym (found_by_pairs site))
      | inr once ↦ ap (λ own. checked (having own)) (map_kept IsCell has_slot_pair cut_cell cell_kept cells all once)
    ]

cut_after : {A B : Type 0} (cut : A → A) (r : Read A) (f : A → Read B) → ((x : A) → r ≡ Ok x → f (cut x) ≡ f x) → (finished cut r >>= f) ≡ (r >>= f)
cut_after cut (Ok x) f same = same x refl
cut_after cut (Err fault) f same = refl

-- what is kept says what the file says
pub site_kept : (d : Data) → kept_site d ≡ site_of d
unfolding kept_site site_of
site_kept d =
    same_after (handover_at d) _ _
    (λ handover.
    let rest : List CellView → Read SiteView =
    λ cells. outside_of (get (key_name key.Outside) d) >>= (λ outside. checked (record { handover = handover; cells = cells; outside = outside })) in
    ap (λ r. r >>= rest) (cells_cut d)
    ∙ cut_after (map cut_cell) (cells_of d) rest
    (λ cells told. same_after (outside_of (get (key_name key.Outside) d)) _ _ (λ outside. checked_cut handover cells outside (cell_list d cells told).each_cell)))
