use Rattle.std.proofs.Common.{◌<◌}
use Rattle.channel_fsm.specs.declared.ChanId.{ChanId}
use Rattle.dense_tables.specs.Channels.{IsMaskedAt}
use Rattle.dense_tables.proofs.channels.masks.lowest_in.Given as goal

-- no TRX so far has such a channel in its masks
abbrev pub invariant-loop-trx : goal.invariant-loop-trx
invariant-loop-trx g l = (y : ChanId) → IsMaskedAt l.masks.items l.cell l.rate y → y.trx < l.trx → ⊥
