use Rattle.std.proofs.Common.{◌≡◌, ◌∙◌, arith}
use Rattle.timeslots.specs.declared.Sub.{Sub}
use Rattle.timeslots.specs.declared.Sub.TheVariants.{Full, Half0, Half1}
use Rattle.channel_fsm.specs.declared.ChanId.{ChanId}
use Rattle.cell_table.specs.Site.{IsWithinLimits}
use Rattle.dense_tables.specs.Channels.{mask_at, is_free_by}
use Rattle.dense_tables.proofs.Masked.{other_part, noted}
use Rattle.dense_tables.proofs.channels.masks.set_timeslot.Goals as goal

of_part : (x : ChanId) (s : Sub) → IsWithinLimits x → IsWithinLimits (record x { sub = s })
of_part x s limits = record { cell = limits.cell; trx = limits.trx; timeslot = limits.timeslot }

pub is_used-whole-requires-clause-states : goal.is_used-whole-requires-clause-states
is_used-whole-requires-clause-states g c = c.requires.states (record c.args.x { sub = Full })

pub is_used-lower-requires-clause-states : goal.is_used-lower-requires-clause-states
is_used-lower-requires-clause-states g c = c.requires.states (record c.args.x { sub = Half0 })

pub is_used-upper-requires-clause-states : goal.is_used-upper-requires-clause-states
is_used-upper-requires-clause-states g c = c.requires.states (record c.args.x { sub = Half1 })

pub set_mask-requires : goal.set_mask-requires
set_mask-requires g c = record { within = of_part c.args.x Full c.requires.within; len = c.requires.len }

pub set_mask-requires-2 : goal.set_mask-requires-2
set_mask-requires-2 g c = record { within = of_part c.args.x Half0 c.requires.within; len = c.set_mask.ensures.len }

pub set_mask-requires-3 : goal.set_mask-requires-3
set_mask-requires-3 g c = record { within = of_part c.args.x Half1 c.requires.within; len = c.set_mask-2.ensures.len }

pub returns : goal.returns
returns g c =
    let x = c.args.x in
    let limits = c.requires.within in
    let places = c.args.places.now.items in
    let states = c.args.states.now.items in
    let whole = c.is_used-whole.ensures in
    let lower = c.is_used-lower.ensures in
    let upper = c.is_used-upper.ensures in
    let full = noted places states x _ _ _ c.is_free.result Full whole lower upper c.is_free.ensures in
    let half0 = noted places states x _ _ _ c.is_free-2.result Half0 whole lower upper c.is_free-2.ensures in
    let half1 = noted places states x _ _ _ c.is_free-3.result Half1 whole lower upper c.is_free-3.ensures in
    let told : (s : Sub) → mask_at c.set_mask-3.new.masks.items (record x { sub = s }) ≡ is_free_by places states (record x { sub = s }) = λ s. elim s as (λ s. mask_at c.set_mask-3.new.masks.items (record x { sub = s }) ≡ is_free_by places states (record x { sub = s })) [
      | Full ↦ c.set_mask-3.ensures.others (record x { sub = Full }) (of_part x Full limits) (other_part x Full Half1 (λ e. omega arith))
          ∙ c.set_mask-2.ensures.others (record x { sub = Full }) (of_part x Full limits) (other_part x Full Half0 (λ e. omega arith)) ∙ c.set_mask.ensures.set ∙ full
      | Half0 ↦ c.set_mask-3.ensures.others (record x { sub = Half0 }) (of_part x Half0 limits) (other_part x Half0 Half1 (λ e. omega arith)) ∙ c.set_mask-2.ensures.set ∙ half0
      | Half1 ↦ c.set_mask-3.ensures.set ∙ half1
    ] in
    record {
      len = c.set_mask-3.ensures.len;
      timeslot = told;
      others = λ y inside apart. c.set_mask-3.ensures.others y inside (apart Half1) ∙ c.set_mask-2.ensures.others y inside (apart Half0) ∙ c.set_mask.ensures.others y inside (apart Full);
    }
