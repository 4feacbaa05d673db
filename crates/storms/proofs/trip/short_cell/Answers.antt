use Rattle.std.proofs.Common.{◌≤◌, length, below_more}
use Rattle.storms.specs.Width.{traffic_of}
use Rattle.storms.proofs.trip.short_cell.Goals as goal

pub loop-cell-preserved : goal.loop-cell-preserved
loop-cell-preserved g c =
    below_more (λ cell. c.args.many ≤ length (traffic_of c.args.site.now cell)) c.loop-cell.cell c.loop-cell.invariant (rw (← c.channels_in-channels.ensures) c.if-channels-many.false)
