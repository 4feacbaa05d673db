use Rattle.std.proofs.Common.{◌∙◌, arith}
use Rattle.std.proofs.lemmas.List.{get_or_read}
use Rattle.dense_tables.proofs.Masked.{part_count}
use Rattle.dense_tables.proofs.channels.masks.count_with.Goals as goal

pub returns-clause-count : goal.returns-clause-count
returns-clause-count g c =
    let masks = c.args.masks.now.items in
    c.from.ensures
    ∙ part_count masks c.args.cell c.args.trx c.args.sub c.mask_place.result c.index.result.now c.count.result c.mask_place.ensures.value c.mask_place.ensures.within c.requires.len
    (λ d. get_or_read masks _ _ (omega (arith, c.mask_place.ensures.within, c.requires.len)) c.index.ensures d) c.count.ensures.count
