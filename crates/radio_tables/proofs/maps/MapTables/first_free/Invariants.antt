use Rattle.std.proofs.Common.{◌≡◌, drop}
use Rattle.std.specs.List.{find}
use Rattle.radio_tables.specs.Places.{is_free_at, channels_of}
use Rattle.radio_tables.proofs.maps.MapTables.first_free.Given as goal

-- the places so far have no free traffic channel
abbrev pub invariant-loop-place : goal.invariant-loop-place
invariant-loop-place g l =
    find (is_free_at l.self l.rate) (drop l.place (channels_of l.cell)) ≡ find (is_free_at l.self l.rate) (channels_of l.cell)
