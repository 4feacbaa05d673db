-- In a sound book one of the first 97 handover references of a cell is free.
use Rattle.std.proofs.Common.{◌≡◌, ◌==◌, ℕ, ◌+◌, ◌*◌, ◌<◌, true, get_or, map as map_list, Option, Some, None, is_some, option_and_then, refl, sym, ap, ◌∙◌, zero-add, arith}
use Rattle.std.specs.List.{list_any, range_with_len}
use Rattle.std.proofs.lemmas.Bool.{ne_eqb, eqb-true}
use Rattle.std.proofs.lemmas.List.FromFn.{get_or-map-range_with_len, length-map-range_with_len}
use Rattle.std.proofs.lemmas.Map.Keys.{IsDistinct-from_apart}
use Rattle.std.proofs.lemmas.Map.Steps.{length-le_from_distinct_below}
use Rattle.std.proofs.lemmas.Map.Views.{Contains-from_any}
use Rattle.std.specs.FinMap as map
use Rattle.channel_fsm.specs.declared.ChanId.{ChanId}
use Rattle.timeslots.specs.Parts.{sub_number}
use Rattle.channel_fsm.proofs.KeyFacts.{one_sub}
use Rattle.cell_table.proofs.PartFacts.{number_small}
use Rattle.radio_tables.specs.declared.kinds.CallRecord.{CallRecord}
use Rattle.dense_tables.specs.declared.references.Reference.{Reference}
use Rattle.cell_table.specs.Site.{TrafficLiesWithin, IsWithinLimits}
use Rattle.radio_book.specs.State.{State, state_of, record_of}
use Rattle.radio_book.specs.Table.{owner, reference_held}
use Rattle.radio_book.specs.Sound.{IsSound, target_in, reference_of}
use Rattle.radio_book.proofs.Frame.{same_some, aimed_is_owned}
use Rattle.radio_book.proofs.SoundParts.{owned_traffic}

abbrev numbered : ℕ → ℕ → Reference
numbered cell n = record { cell = cell; number = n }

-- the call that uses a number, by its attempt's target
record IsUsed (b : State) (cell n : ℕ) : Type 0 where
  call : ℕ
  known : CallRecord
  channel : ChanId
  user : map.get b.references (numbered cell n) ≡ Some call
  recorded : record_of b call ≡ Some known
  reference : reference_of known.attempt ≡ Some (numbered cell n)
  target : target_in known ≡ Some channel
  in_cell : channel.cell ≡ cell
  owned : owner (state_of b channel) ≡ Some call
  limits : IsWithinLimits channel

-- a held reference lies in the cell of a target
held_by : (o : Option ChanId) (m : Option ℕ) (k : Reference) → reference_held o m ≡ Some k → (t : ChanId) × (o ≡ Some t) × (t.cell ≡ k.cell)
held_by None m k e = cc
held_by (Some t) None k e = cc
held_by (Some t) (Some m) k e = (t, refl, ap (λ r. r.cell) (same_some _ _ e))

used_by : (b : State) → IsSound b → TrafficLiesWithin b.site → (cell n c : ℕ) (r : CallRecord) → map.get b.references (numbered cell n) ≡ Some c → record_of b c ≡ Some r → reference_of r.attempt ≡ Some (numbered cell n) → IsUsed b cell n
used_by b sound site cell n c r user recorded reference =
    elim r.attempt as (λ o. r.attempt ≡ o → reference_of o ≡ Some (numbered cell n) → IsUsed b cell n) [
      | None ↦ λ is h. cc
      | Some a ↦ λ is h.
          let held = held_by a.target a.reference (numbered cell n) h in
          let t = held.0 in
          let owned = aimed_is_owned b sound c r a t recorded is held.1 in
          record {
            call = c;
            known = r;
            channel = t;
            user = user;
            recorded = recorded;
            reference = reference;
            target = ap (option_and_then (λ a. a.target)) is ∙ held.1;
            in_cell = held.2;
            owned = owned;
            limits = site t (owned_traffic b sound t c owned);
          }
    ] refl reference

used : (b : State) → IsSound b → TrafficLiesWithin b.site → (cell n : ℕ) → is_some (map.get b.references (numbered cell n)) ≡ true → IsUsed b cell n
used b sound site cell n there =
    elim (map.get b.references (numbered cell n)) as (λ o. map.get b.references (numbered cell n) ≡ o → is_some o ≡ true → IsUsed b cell n) [
      | None ↦ λ is h. cc
      | Some c ↦ λ is h.
          let found = sound.user_has_reference (numbered cell n) c is in
          used_by b sound site cell n c found.0 is found.1 found.2
    ] refl there

-- the place of the channel that a number is used for
place_or_zero : Option ChanId → ℕ
place_or_zero None = 0
place_or_zero (Some t) = 24 * t.trx + (t.tn * 3 + sub_number t.sub)

place_of : State → ℕ → ℕ → ℕ
place_of b cell n =
    place_or_zero (option_and_then (λ c. option_and_then target_in (record_of b c)) (map.get b.references (numbered cell n)))

place_is : (b : State) (cell n : ℕ) (u : IsUsed b cell n) → place_of b cell n ≡ 24 * u.channel.trx + (u.channel.tn * 3 + sub_number u.channel.sub)
unfolding place_of place_or_zero
place_is b cell n u =
    ap place_or_zero (ap (option_and_then (λ c. option_and_then target_in (record_of b c))) u.user
    ∙ ap (option_and_then target_in) u.recorded ∙ u.target)

place_small : (b : State) (cell n : ℕ) → IsUsed b cell n → place_of b cell n < 96
place_small b cell n u = let less = number_small u.channel.sub in omega (arith, place_is b cell n u, u.limits.trx, u.limits.timeslot, less)

-- numbers at one place are one
same_number : (b : State) (cell n m : ℕ) → IsUsed b cell n → IsUsed b cell m → place_of b cell n ≡ place_of b cell m → n ≡ m
same_number b cell n m u v e =
    let places : 24 * u.channel.trx + (u.channel.tn * 3 + sub_number u.channel.sub) ≡ 24 * v.channel.trx + (v.channel.tn * 3 + sub_number v.channel.sub) = sym (place_is b cell n u) ∙ e ∙ place_is b cell m v in
    let one = number_small u.channel.sub in
    let other = number_small v.channel.sub in
    let trx : u.channel.trx ≡ v.channel.trx = omega (arith, places, one, other, u.limits.timeslot, v.limits.timeslot) in
    let tn : u.channel.tn ≡ v.channel.tn = omega (arith, places, trx, one, other) in
    let sub = one_sub u.channel.sub v.channel.sub (omega (arith, places, trx, tn)) in
    let cells : u.channel.cell ≡ v.channel.cell = u.in_cell ∙ sym v.in_cell in
    let channels : u.channel ≡ v.channel = λ i. record { cell = cells i; trx = trx i; tn = tn i; sub = sub i } in
    let calls : u.call ≡ v.call = same_some _ _ (sym u.owned ∙ ap (λ x. owner (state_of b x)) channels ∙ v.owned) in
    let known : u.known ≡ v.known = same_some _ _ (sym u.recorded ∙ ap (record_of b) calls ∙ v.recorded) in
    ap (λ k. k.number) (same_some _ _ (sym u.reference ∙ ap (λ r. reference_of r.attempt) known ∙ v.reference))

pub not_all_used : (b : State) → IsSound b → TrafficLiesWithin b.site → (cell : ℕ) → ((n : ℕ) → n < 97 → is_some (map.get b.references (numbered cell n)) ≡ true) → ⊥
not_all_used b sound site cell all =
    let f : ℕ → ℕ = place_of b cell in
    let xs = map_list f (range_with_len 0 97) in
    let size = length-map-range_with_len f 0 97 in
    let each : (n : ℕ) → n < 97 → IsUsed b cell n = λ n h. used b sound site cell n (all n h) in
    let distinct = IsDistinct-from_apart ◌==◌ xs (λ i j d less inside.
    let below : j < 97 = omega (arith, inside, size) in
    let first : i < 97 = omega (arith, less, below) in
    ap (λ x. x == get_or xs j d) (get_or-map-range_with_len f 0 97 i i d first (zero-add i))
    ∙ ap (λ x. f i == x) (get_or-map-range_with_len f 0 97 j j d below (zero-add j))
    ∙ ne_eqb (f i) (f j) (λ e. let same = same_number b cell i j (each i first) (each j below) e in absurd (omega (arith, same, less)))) in
    let small : (q : ℕ) → list_any (◌==◌ q) xs ≡ true → q < 96 = λ q h.
    let at = Contains-from_any eqb-true q xs h in
    let below : at.0 < 97 = omega (arith, at.1, size) in
    let is = sym (get_or-map-range_with_len f 0 97 at.0 at.0 q below (zero-add at.0)) ∙ at.2 in
    omega (arith, is, place_small b cell at.0 (each at.0 below)) in
    let fits = length-le_from_distinct_below xs 96 distinct small in
    absurd (omega (arith, fits, size))
