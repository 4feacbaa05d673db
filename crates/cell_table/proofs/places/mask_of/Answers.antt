use Rattle.std.proofs.Common.{◌==◌, ◌||◌, slice_index_or, sym, ap, ◌∙◌}
use Rattle.std.proofs.lemmas.List.Folds.{list_any_more}
use Rattle.cell_table.proofs.Masked.{one_more}
use Rattle.cell_table.proofs.places.mask_of.Goals as goal

pub loop-tn-preserved : goal.loop-tn-preserved
loop-tn-preserved c n =
    let slots = c.args.slots.now in
    let index = c.loop-tn.tn-index in
    let tn = slice_index_or slots index 0 in
    one_more c.loop-tn.mask tn n (c.requires index 0 c.loop-tn-test.true) ∙ ap (λ b. b || (tn == n)) (c.loop-tn.invariant n)
    ∙ sym (list_any_more (λ m. m == n) slots index 0 c.loop-tn-test.true)
