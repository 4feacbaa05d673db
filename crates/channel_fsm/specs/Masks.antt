-- Sets of the timeslots of a TRX, each an octet. Ours, of no standard.
use Rattle.std.specs.Prelude.{ℕ, ◌==◌, Bool, List}
use Rattle.std.specs.List.{range_with_len}
use Rattle.std.specs.Int.{bit_at}

-- the timeslots of a TRX (TS 45.002 clause 4.3.2)
abbrev pub timeslots : List ℕ
timeslots = range_with_len 0 8

-- the timeslot is in the set: the octet's bit of value 2 to the power of its number is set
abbrev pub has : ℕ → ℕ → Bool
has octet tn = bit_at octet tn == 1
