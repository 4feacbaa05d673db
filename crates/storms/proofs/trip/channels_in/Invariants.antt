use Rattle.std.proofs.Common.{◌≡◌, ◌+◌, ◌≤◌, length}
use Rattle.storms.specs.Width.{traffic_of}
use Rattle.storms.proofs.Places.{traffic_from}
use Rattle.storms.proofs.trip.channels_in.Given as goal

-- the count is of the places so far
abbrev pub invariant-loop-place : goal.invariant-loop-place
invariant-loop-place g l = record {
  counted : l.count + length (traffic_from l.site l.cell l.place) ≡ length (traffic_of l.site l.cell);
  bound : l.count ≤ l.place;
}
