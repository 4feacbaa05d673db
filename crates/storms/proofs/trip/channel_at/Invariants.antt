use Rattle.std.proofs.Common.{◌≡◌, slice_get}
use Rattle.storms.specs.Width.{traffic_of}
use Rattle.storms.proofs.Places.{traffic_from}
use Rattle.storms.proofs.trip.channel_at.Given as goal

-- so many of those from this place on stand before the one that is looked for
abbrev pub invariant-loop-slot : goal.invariant-loop-slot
invariant-loop-slot g l = slice_get (traffic_from l.site l.cell l.slot) l.left ≡ slice_get (traffic_of l.site l.cell) l.place
