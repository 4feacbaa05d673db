use Rattle.std.proofs.Common.{◌≡◌, ◌/◌, ◌%◌, ◌<◌, inl, inr, length, get_or, set, sym, ap, ◌∙◌, arith}
use Rattle.std.proofs.lemmas.Bool.{cases_eq}
use Rattle.std.proofs.lemmas.List.{get_or-set_same, get_or-set_other, length-set}
use Rattle.channel_fsm.specs.Masks.{has}
use Rattle.timeslots.specs.Parts.{sub_number}
use Rattle.channel_fsm.specs.declared.ChanId.{ChanId}
use Rattle.cell_table.specs.Site.{is_traffic}
use Rattle.dense_tables.specs.Channels.{sub_at, mask_place}
use Rattle.dense_tables.proofs.Stated.{sub_small, sub_again}
use Rattle.dense_tables.proofs.channels.masks.masks_of.Goals as goal

pub returns-clause-masks : goal.returns-clause-masks
returns-clause-masks g c x limits =
    let few = limits.trx in
    let small = limits.cell in
    let part = sub_small x.sub in
    let within : mask_place x < 768 = omega arith in
    let cell : mask_place x / 12 ≡ x.cell = omega arith in
    let trx : mask_place x / 3 % 4 ≡ x.trx = omega arith in
    let number : mask_place x % 3 ≡ sub_number x.sub = omega arith in
    let sub = ap sub_at number ∙ sub_again x.sub in
    let here : ◌≡◌ {A = ChanId} (record { cell = mask_place x / 12; trx = mask_place x / 3 % 4; tn = x.tn; sub = sub_at (mask_place x % 3) }) x = λ i. record { cell = cell i; trx = trx i; tn = x.tn; sub = sub i } in
    c.loop-number.invariant.noted (mask_place x) (omega (arith, within, c.loop-number-test.false)) x.tn ∙ ap (is_traffic c.args.site.now) here

pub loop-number-preserved : goal.loop-number-preserved
loop-number-preserved g c =
    let masks = c.loop-number.masks.items in
    let number = c.loop-number.number in
    let mask = c.mask_of.result in
    let within : number < length masks = omega (arith, c.loop-number-test.true, c.loop-number.invariant.long) in
    record {
      long = length-set masks number mask ∙ c.loop-number.invariant.long;
      noted = λ k less tn. elim (cases_eq k number) [
        | inl same ↦
            ap (λ j. has (get_or (set masks number mask) j 0) tn) same ∙ ap (λ m. has m tn) (get_or-set_same masks number mask 0 within) ∙ c.mask_of.ensures tn
            ∙ ap (λ j. is_traffic c.args.site.now (record { cell = j / 12; trx = j / 3 % 4; tn = tn; sub = sub_at (j % 3) })) (sym same)
        | inr other ↦ ap (λ m. has m tn) (get_or-set_other masks number k mask 0 other) ∙ c.loop-number.invariant.noted k (omega (arith, less, other)) tn
      ];
    }
