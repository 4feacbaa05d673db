use Rattle.std.proofs.Common.{get_or, None, sym, ◌∙◌, subst}
use Rattle.dense_tables.specs.Calls.{entries_of, AgreesAt}
use Rattle.dense_tables.proofs.Kept.{alike, slots_same}
use Rattle.dense_tables.proofs.calls.CallSlots.is_same.Goals as goal

pub returns-then-self-other : goal.returns-then-self-other
returns-then-self-other g c =
    let one = c.self.inside in
    let other = c.other.inside in
    record {
      same = (
        λ same.
            sym c.self.view_is
            ∙ slots_same one.keys.items other.keys.items one.slots.slots other.slots.slots
            (λ j. subst (λ n. AgreesAt (entries_of one.keys.items one.slots.slots) n (get_or one.slots.slots j None)) (sym c.other.view_is) (subst (λ m. AgreesAt m c.args.other.now (get_or one.slots.slots j None)) (sym c.self.view_is) (c.same_slots.ensures.0 same j)))
            (sym c.self.invariant.counted ∙ c.if-self-other.true ∙ c.other.invariant.counted)
            ∙ c.other.view_is,
        λ same. c.same_slots.ensures.1 (λ j. subst (λ n. AgreesAt c.args.self.now n (get_or one.slots.slots j None)) same (alike c.args.self.now (get_or one.slots.slots j None))),
      );
    }
