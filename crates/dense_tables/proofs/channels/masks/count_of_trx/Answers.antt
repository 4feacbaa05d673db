use Rattle.std.proofs.Common.{◌+◌, sym, ◌∙◌}
use Rattle.dense_tables.specs.Channels.{mask_at}
use Rattle.dense_tables.proofs.Masked.{by_parts}
use Rattle.dense_tables.proofs.channels.masks.count_of_trx.Goals as goal

pub returns-clause-count : goal.returns-clause-count
returns-clause-count g c =
    (λ i. c.count_with.ensures.count i + c.count_with-2.ensures.count i + c.count_with-3.ensures.count i)
    ∙ sym (by_parts (mask_at c.args.masks.now.items) c.args.cell c.args.trx)
