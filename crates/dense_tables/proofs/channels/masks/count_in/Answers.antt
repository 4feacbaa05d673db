use Rattle.std.proofs.Common.{◌+◌, sym, ◌∙◌}
use Rattle.dense_tables.specs.Channels.{mask_at}
use Rattle.dense_tables.proofs.Masked.{by_trx}
use Rattle.dense_tables.proofs.channels.masks.count_in.Goals as goal

pub returns : goal.returns
returns g c = record {
  count = (λ i. c.count_of_trx.ensures.count i + c.count_of_trx-2.ensures.count i + c.count_of_trx-3.ensures.count i + c.count_of_trx-4.ensures.count i)
      ∙ sym (by_trx (mask_at c.args.masks.now.items) c.args.cell);
}
