use Rattle.std.proofs.Common.{◌≡◌, ℕ, cond, sym, ap, ◌∙◌, refl, is_some, Some, None, get_or, arith}
use Rattle.std.specs.FinMap as map
use Rattle.std.proofs.lemmas.List.{length-set}
use Rattle.dense_tables.proofs.Kept.{entry_added, count_put, few_entries}
use Rattle.dense_tables.proofs.calls.CallSlots.add.Goals as goal

pub overflow_add-self : goal.overflow_add-self
overflow_add-self g c =
    let t = c.self.inside in
    let most = few_entries t.keys.items t.slots.slots in
    omega (arith, most, c.self.invariant.counted, c.self.invariant.keys_long)

pub invariant_of-self-2 : goal.invariant_of-self-2
invariant_of-self-2 g c =
    let t = c.self.inside in
    let call = c.args.call in
    let old = t.slots.slots in
    let new = c.insert_reserved.new.self.slots in
    let room = c.in_ok-reserve.ensures.rest_kept in
    let key = c.insert_reserved.ensures.key ∙ sym c.vacant_key.ensures.value ∙ sym c.in_ok-key.ensures.same in
    let vacant : get_or old c.in_ok-key.key None ≡ None = sym (ap (λ s. get_or s.slots c.in_ok-key.key None) room) ∙ ap (λ k. get_or c.reserve.new.self.slots k None) (sym key) ∙ c.insert_reserved.ensures.was_vacant in
    let added = entry_added t.keys.items old new call c.in_ok-key.key (record { number = call; entry = c.args.entry }) (omega (arith, c.self.invariant.keys_long)) refl vacant
    (ap (λ k. get_or new k None) (sym key) ∙ c.insert_reserved.ensures.updates.changed)
    (λ j other. c.insert_reserved.ensures.updates.others j (λ same. other (same ∙ key)) ∙ ap (λ s. get_or s.slots j None) room) in
    let counts = count_put t.keys.items old call (Some c.args.entry) in
    let none = ap {B = ℕ} (λ o. cond (is_some o) 1 0) (ap (λ m. map.get m call) c.self.view_is ∙ c.requires.new) in
    let same = ap map.len added in
    record { keys_long = length-set t.keys.items call c.in_ok-key.key ∙ c.self.invariant.keys_long; counted = omega (arith, counts, none, same, c.self.invariant.counted) }

pub returns-clause-ok : goal.returns-clause-ok
returns-clause-ok g c =
    let t = c.self.inside in
    let call = c.args.call in
    let old = t.slots.slots in
    let new = c.insert_reserved.new.self.slots in
    let room = c.in_ok-reserve.ensures.rest_kept in
    let key = c.insert_reserved.ensures.key ∙ sym c.vacant_key.ensures.value ∙ sym c.in_ok-key.ensures.same in
    let vacant : get_or old c.in_ok-key.key None ≡ None = sym (ap (λ s. get_or s.slots c.in_ok-key.key None) room) ∙ ap (λ k. get_or c.reserve.new.self.slots k None) (sym key) ∙ c.insert_reserved.ensures.was_vacant in
    entry_added t.keys.items old new call c.in_ok-key.key (record { number = call; entry = c.args.entry }) (omega (arith, c.self.invariant.keys_long)) refl vacant
    (ap (λ k. get_or new k None) (sym key) ∙ c.insert_reserved.ensures.updates.changed)
    (λ j other. c.insert_reserved.ensures.updates.others j (λ same. other (same ∙ key)) ∙ ap (λ s. get_or s.slots j None) room)
    ∙ ap (λ m. map.insert m call c.args.entry) c.self.view_is
