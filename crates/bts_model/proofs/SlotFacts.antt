-- What is known of a channel after one change or two.
use Rattle.std.proofs.Common.{◌≡◌, Bool, true, false, cond, Option, Some, None, refl, sym, ap, ◌∙◌, unwrap_or}
use Rattle.std.specs.Option.{option_or}
use Rattle.std.specs.Cmp.{eq_by_cmp_equiv}
use Rattle.std.specs.Ordering.{eq_by_cmp}
use Rattle.std.specs.FinMap as map
use Rattle.std.specs.FinMap.{same_map, get-insert}
use Rattle.bts_model.specs.declared.place.Place.{Place}
use Rattle.bts_model.specs.declared.place.Key.{Key}
use Rattle.bts_model.specs.declared.slots.Slot.{Slot}
use Rattle.bts_model.specs.Keys.{key_of, key_cmp}
use Rattle.bts_model.specs.World.{idle, slot_in, changed}
use Rattle.bts_model.proofs.KeyFacts.{key_total, key_exact}

-- what was put there
pub slot_put : (slots : map.FinMap key_cmp Slot) (x : Place) (slot : Slot) → slot_in (map.insert slots (key_of x) slot) x ≡ slot
slot_put slots x slot =
    let there = get-insert key_total slots (key_of x) slot (key_of x) in
    let same = (eq_by_cmp_equiv key_total).refl (key_of x) in
    ap (λ o. unwrap_or o idle) (there ∙ ap (λ b. cond b (Some slot) (map.get slots (key_of x))) same)

overruled : {A : Type 0} (b : Bool) (one other rest : A) → cond b other (cond b one rest) ≡ cond b other rest
overruled true one other rest = refl
overruled false one other rest = refl

put_twice : (slots : map.FinMap key_cmp Slot) (x : Key) (one other : Slot) → map.insert (map.insert slots x one) x other ≡ map.insert slots x other
put_twice slots x one other = same_map key_total key_exact _ _ (λ q.
    let is = eq_by_cmp key_cmp q x in
    get-insert key_total (map.insert slots x one) x other q ∙ ap (cond is (Some other)) (get-insert key_total slots x one q)
    ∙ overruled is (Some one) (Some other) (map.get slots q) ∙ sym (get-insert key_total slots x other q))

-- of two changes the second counts, where there is one
pub changed_twice : (slots : map.FinMap key_cmp Slot) (x : Place) (one other : Option Slot) → changed (changed slots x one) x other ≡ changed slots x (option_or other one)
changed_twice slots x one None = refl
changed_twice slots x None (Some other) = refl
changed_twice slots x (Some one) (Some other) = put_twice slots (key_of x) one other
