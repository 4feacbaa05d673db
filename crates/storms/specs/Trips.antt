-- What the calls of a storm do. Ours, of no standard.
use Rattle.std.specs.Prelude.{ℕ, ◌+◌, ◌/◌, ◌%◌, ◌==◌, if◌then◌else◌, List, length, filter_map, Option, option_map, slice_get}
use Rattle.std.specs.List.{range_with_len}
use Rattle.cell_table.specs.Site.{SiteView}
use Rattle.bts_model.specs.declared.setting.Habit.{Habit}
use Rattle.bts_model.specs.declared.setting.Habit.TheVariants.{Arrive, Return}
use Rattle.storms.specs.declared.trip.Trip.{Trip}
use Rattle.storms.specs.Width.{traffic_of}

-- mobiles of calls with even numbers arrive, those of odd ones return
abbrev pub habit_of : ℕ → Habit
habit_of call = if (call % 2) == 0 then Arrive else Return

-- With n cells, call k is opened on the traffic channel at place k / n of cell k mod n, if there is one, and tries to move to
-- cell k + 1 mod n.
abbrev pub trip_of : SiteView → ℕ → Option Trip
trip_of site call =
    option_map (λ from. record { call = call; from = from; to = (call + 1) % length site.cells; habit = habit_of call })
    (slice_get (traffic_of site (call % length site.cells)) (call / length site.cells))

-- the trips of so many calls
abbrev pub trips_of : SiteView → ℕ → List Trip
trips_of site calls = filter_map (trip_of site) (range_with_len 0 calls)
