use Rattle.std.proofs.Common.{length}
use Rattle.cell_table.proofs.places.+channel_of_trx.Given as goal

abbrev pub decreases-channel_of_trx : goal.decreases-channel_of_trx
decreases-channel_of_trx l = length l.trx.now
