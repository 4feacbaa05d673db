use Rattle.std.proofs.Common.{[], rules}
use Rattle.storms.specs.Trips.{trip_of}
use Rattle.octet_elements.proofs.Numbered.{filter_map_next}
use Rattle.storms.proofs.trip.trips_of.Goals as goal

pub loop-call-preserved : goal.loop-call-preserved
loop-call-preserved g c = rw (← filter_map_next [] (trip_of c.args.site.now) c.loop-call.call) (search rules)
