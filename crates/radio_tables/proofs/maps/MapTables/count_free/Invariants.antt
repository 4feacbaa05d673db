use Rattle.std.proofs.Common.{◌≡◌, ◌≤◌, take, count_by}
use Rattle.radio_tables.specs.Places.{is_free_traffic, channels_of}
use Rattle.radio_tables.proofs.maps.MapTables.count_free.Given as goal

-- the count is of the places so far
abbrev pub invariant-loop-place : goal.invariant-loop-place
invariant-loop-place g l = record {
  counted : l.count ≡ count_by (is_free_traffic l.self) (take l.place (channels_of l.cell));
  bound : l.count ≤ l.place;
}
