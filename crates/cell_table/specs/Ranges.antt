-- What each key of a site file allows.
use Rattle.std.specs.Prelude.{ℕ, ◌-◌, ◌≤◌, Bool, true, false}
use Rattle.cell_table.specs.declared.fault.Key.{Key}
use Rattle.cell_table.specs.declared.fault.Key.TheVariants as key
use Rattle.cell_table.specs.declared.ranges.Allowed.{Allowed}
use Rattle.cell_table.specs.Limits.{most_cells, most_outside, most_trx, timeslots_of_trx, most_reports, most_level, most_code, most_carrier, most_colour, most_power}

-- from 0 to a number
abbrev pub up_to : ℕ → Allowed
up_to most = record { least = 0; most = most }

-- from 1 to a number
abbrev pub from_one : ℕ → Allowed
from_one most = record { least = 1; most = most }

-- The numbers that the value of a key may be, or each entry where it is a list of numbers; of a key with tables, how many
-- there may be.
abbrev pub allowed : Key → Allowed
allowed key.Handover = record { least = 1; most = 1 }
allowed key.Window = from_one most_reports
allowed key.Margin = up_to most_level
allowed key.Minimum = up_to most_level
allowed key.Cell = from_one most_cells
allowed key.Lac = up_to most_code
allowed key.Ci = up_to most_code
allowed key.Bcch = up_to most_carrier
allowed key.Ncc = up_to most_colour
allowed key.Bcc = up_to most_colour
allowed key.Power = up_to most_power
allowed key.Ba = up_to most_carrier
allowed key.Trx = from_one most_trx
allowed key.Arfcn = up_to most_carrier
allowed key.Tch = up_to (timeslots_of_trx - 1)
allowed key.Half = up_to (timeslots_of_trx - 1)
allowed key.Outside = up_to most_outside

-- A TRX, the first of its cell or another: the carrier of the first is the cell's BCCH carrier.
abbrev pub arfcn_range : ℕ → Bool → Allowed
arfcn_range bcch true = record { least = bcch; most = bcch }
arfcn_range bcch false = allowed key.Arfcn

-- Timeslot 0 of the first carries the cell's broadcast channels (TS 45.002 clause 7) and never traffic.
abbrev pub tch_range : Bool → Allowed
tch_range true = record { least = 1; most = (allowed key.Tch).most }
tch_range false = allowed key.Tch

-- the number is one of those allowed
abbrev pub IsAllowed : Key → ℕ → Type 0
IsAllowed k n = ((allowed k).least ≤ n) × (n ≤ (allowed k).most)
