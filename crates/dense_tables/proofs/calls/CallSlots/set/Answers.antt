use Rattle.std.proofs.Common.{ℕ, cond, sym, ap, ◌∙◌, refl, is_some, Some, subst, arith}
use Rattle.std.specs.FinMap as map
use Rattle.std.proofs.lemmas.Option.{slice_get_read}
use Rattle.dense_tables.specs.Calls.{entries_of, kept_in}
use Rattle.dense_tables.specs.Maps.{put}
use Rattle.dense_tables.proofs.Kept.{IsOf, kept_there, keeps_some, keeps_own, entry_changed, own_keeps, count_put, get_entry, entry_is}
use Rattle.dense_tables.proofs.calls.CallSlots.set.Goals as goal

pub write_slot-old-requires : goal.write_slot-old-requires
write_slot-old-requires g c =
    let t = c.self.inside in
    let call = c.args.call in
    let key = slice_get_read t.keys.items 65536 call _ (sym c.self.invariant.keys_long) (omega arith) c.index.ensures in
    keeps_some call _ (kept_there t.keys.items t.slots.slots call _ key (ap (λ m. is_some (map.get m call)) c.self.view_is ∙ c.requires.there))

pub invariant_of-self : goal.invariant_of-self
invariant_of-self g c =
    let t = c.self.inside in
    let call = c.args.call in
    let key = slice_get_read t.keys.items 65536 call _ (sym c.self.invariant.keys_long) (omega arith) c.index.ensures in
    let there = ap (λ m. is_some (map.get m call)) c.self.view_is ∙ c.requires.there in
    let of = keeps_own call _ (kept_there t.keys.items t.slots.slots call _ key there) in
    let written = entry_changed t.keys.items t.slots.slots c.write_slot-old.new.slots.slots call _ (Some (record { number = call; entry = c.args.entry })) key of refl c.write_slot-old.ensures.written.changed c.write_slot-old.ensures.written.others
    ∙ ap (put (entries_of t.keys.items t.slots.slots) call) (own_keeps call (record { number = call; entry = c.args.entry }) refl) in
    let counts = count_put t.keys.items t.slots.slots call (Some c.args.entry) in
    let same = ap map.len written in
    let one = ap {B = ℕ} (λ b. cond b 1 0) there in
    record { keys_long = c.self.invariant.keys_long; counted = c.self.invariant.counted ∙ omega (arith, counts, same, one) }

pub returns : goal.returns
returns g c =
    let t = c.self.inside in
    let call = c.args.call in
    let key = slice_get_read t.keys.items 65536 call _ (sym c.self.invariant.keys_long) (omega arith) c.index.ensures in
    let there = ap (λ m. is_some (map.get m call)) c.self.view_is ∙ c.requires.there in
    let of = keeps_own call _ (kept_there t.keys.items t.slots.slots call _ key there) in
    record {
      set = entry_changed t.keys.items t.slots.slots c.write_slot-old.new.slots.slots call _ (Some (record { number = call; entry = c.args.entry })) key of refl c.write_slot-old.ensures.written.changed c.write_slot-old.ensures.written.others
          ∙ ap (put (entries_of t.keys.items t.slots.slots) call) (own_keeps call (record { number = call; entry = c.args.entry }) refl)
          ∙ ap (λ m. map.insert m call c.args.entry) c.self.view_is;
      old = sym (ap (λ m. map.get m call) c.self.view_is)
          ∙ get_entry t.keys.items t.slots.slots call
          ∙ entry_is t.keys.items t.slots.slots call _ key
          ∙ ap (kept_in call) c.write_slot-old.ensures.old
          ∙ own_keeps call c.write_slot-old.result (subst (IsOf call) c.write_slot-old.ensures.old of);
    }
