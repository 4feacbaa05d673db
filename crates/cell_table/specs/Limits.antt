-- How much a site may have, and how great its numbers may be.
use Rattle.std.specs.Prelude.{ℕ}

-- the most own cells of a site, and the most cells of others
abbrev pub most_cells : ℕ
most_cells = 64

abbrev pub most_outside : ℕ
most_outside = 64

-- the number of the first outside cell: own cells have the numbers below
abbrev pub first_outside : ℕ
first_outside = most_cells

-- the most TRX of a cell
abbrev pub most_trx : ℕ
most_trx = 4

-- the timeslots of a TRX (TS 45.002 clause 4.3.2)
abbrev pub timeslots_of_trx : ℕ
timeslots_of_trx = 8

-- the most carriers of a BA list
abbrev pub most_neighbours : ℕ
most_neighbours = 32

-- the most reports of a window
abbrev pub most_reports : ℕ
most_reports = 32

-- the greatest carrier, an ARFCN (TS 45.005 clause 2)
abbrev pub most_carrier : ℕ
most_carrier = 1023

-- the greatest RXLEV (TS 45.008 clause 8.1.4)
abbrev pub most_level : ℕ
most_level = 63

-- the greatest location area code and cell identity: each has two octets (TS 23.003 clauses 4.1 and 4.3.1)
abbrev pub most_code : ℕ
most_code = 65535

-- the greatest network and base station colour code: each has three bits (TS 23.003 clause 4.3.2)
abbrev pub most_colour : ℕ
most_colour = 7

-- the greatest power level (TS 45.005 clause 4.1.1)
abbrev pub most_power : ℕ
most_power = 31
