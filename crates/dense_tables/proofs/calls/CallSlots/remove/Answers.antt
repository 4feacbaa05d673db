use Rattle.std.proofs.Common.{ℕ, cond, sym, ap, ◌∙◌, is_some, None, subst, arith}
use Rattle.std.specs.FinMap as map
use Rattle.std.proofs.lemmas.Option.{slice_get_read}
use Rattle.dense_tables.specs.Calls.{kept_in}
use Rattle.dense_tables.proofs.Kept.{IsOf, own_keeps, keeps_own, keeps_none, entry_is, get_entry, entry_changed, entry_absent, count_put}
use Rattle.dense_tables.proofs.calls.CallSlots.remove.Goals as goal

pub overflow_sub-self : goal.overflow_sub-self
overflow_sub-self g c =
    let t = c.self.inside in
    let call = c.args.call in
    let key = slice_get_read t.keys.items 65536 call _ (sym c.self.invariant.keys_long) (omega arith) c.index.ensures in
    let there = ap is_some (get_entry t.keys.items t.slots.slots call ∙ entry_is t.keys.items t.slots.slots call _ key) ∙ sym c.is_slot_of.ensures ∙ c.if-is_slot_of.true in
    let counts = count_put t.keys.items t.slots.slots call None in
    let one = ap {B = ℕ} (λ b. cond b 1 0) there in
    omega (arith, counts, one, c.self.invariant.counted)

pub invariant_of-self : goal.invariant_of-self
invariant_of-self g c =
    let t = c.self.inside in
    let call = c.args.call in
    let key = slice_get_read t.keys.items 65536 call _ (sym c.self.invariant.keys_long) (omega arith) c.index.ensures in
    let some = sym c.is_slot_of.ensures ∙ c.if-is_slot_of.true in
    let there = ap is_some (get_entry t.keys.items t.slots.slots call ∙ entry_is t.keys.items t.slots.slots call _ key) ∙ some in
    let written = entry_changed t.keys.items t.slots.slots c.remove-old.new.self.slots call _ None key (keeps_own call _ some) tt c.remove-old.ensures.updates.changed c.remove-old.ensures.updates.others in
    let counts = count_put t.keys.items t.slots.slots call None in
    let one = ap {B = ℕ} (λ b. cond b 1 0) there in
    let same = ap map.len written in
    record { keys_long = c.self.invariant.keys_long; counted = omega (arith, counts, one, same, c.self.invariant.counted) }

pub returns-then-is_slot_of : goal.returns-then-is_slot_of
returns-then-is_slot_of g c =
    let t = c.self.inside in
    let call = c.args.call in
    let key = slice_get_read t.keys.items 65536 call _ (sym c.self.invariant.keys_long) (omega arith) c.index.ensures in
    let some = sym c.is_slot_of.ensures ∙ c.if-is_slot_of.true in
    record {
      removed = entry_changed t.keys.items t.slots.slots c.remove-old.new.self.slots call _ None key (keeps_own call _ some) tt c.remove-old.ensures.updates.changed c.remove-old.ensures.updates.others
          ∙ ap (λ m. map.remove m call) c.self.view_is;
      old = sym (sym (ap (λ m. map.get m call) c.self.view_is)
          ∙ get_entry t.keys.items t.slots.slots call
          ∙ entry_is t.keys.items t.slots.slots call _ key
          ∙ ap (kept_in call) c.remove-old.ensures.value
          ∙ own_keeps call c.remove-old.result (subst (IsOf call) c.remove-old.ensures.value (keeps_own call _ some)));
    }

pub returns-else-is_slot_of : goal.returns-else-is_slot_of
returns-else-is_slot_of g c =
    let t = c.self.inside in
    let call = c.args.call in
    let key = slice_get_read t.keys.items 65536 call _ (sym c.self.invariant.keys_long) (omega arith) c.index.ensures in
    let none = entry_is t.keys.items t.slots.slots call _ key ∙ keeps_none _ (sym c.is_slot_of.ensures ∙ c.if-is_slot_of.false) in
    record {
      removed = sym c.self.view_is ∙ sym (entry_absent t.keys.items t.slots.slots call none) ∙ ap (λ m. map.remove m call) c.self.view_is;
      old = sym (sym (ap (λ m. map.get m call) c.self.view_is) ∙ get_entry t.keys.items t.slots.slots call ∙ none);
    }
