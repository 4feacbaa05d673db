use Rattle.std.proofs.Common.{◌≡◌, filter_map}
use Rattle.std.specs.List.{range_with_len}
use Rattle.storms.specs.Trips.{trip_of}
use Rattle.storms.proofs.trip.trips_of.Given as goal

-- the trips so far
abbrev pub invariant-loop-call : goal.invariant-loop-call
invariant-loop-call g l = l.trips.items ≡ filter_map (trip_of l.site) (range_with_len 0 l.call)
