-- What the reader keeps of a site file: all that it says, but of a TRX's timeslots the first nine. Of nine two are the same,
-- so that what it answers is what `SiteFile` says. Only private clauses cite this.
use Rattle.std.specs.Prelude.{ℕ, ◌==◌, Bool, false, Ok, List, take, Option, Some, None}
use Rattle.std.specs.Result.{result_map_both}
use Rattle.std.specs.List.{list_any}
use Rattle.toml.specs.Data.{Data, get}
use Rattle.cell_table.specs.declared.fault.Key.TheVariants as key
use Rattle.cell_table.specs.declared.ranges.Allowed.{Allowed}
use Rattle.cell_table.specs.Ranges.{arfcn_range, tch_range}
use Rattle.cell_table.specs.Views.{TrxView, CellView, SiteView}
use Rattle.cell_table.specs.Rules.{checked}
use Rattle.cell_table.specs.SiteFile.{Read, ◌>>=◌, value_at, number_within, number_at, tables_of, each, key_name, handover_at, identity_of, ba_of, array_of, allowed_number, number_of, half_of, outside_of}

-- the first nine of the timeslots that are read
abbrev pub first_nine : Read (List ℕ) → Read (List ℕ)
first_nine slots = result_map_both (λ found. take 9 found) (λ fault. fault) slots

-- a TRX with this carrier, by the entries of `tch`
unfoldable pub trx_by : ℕ → Allowed → List Data → Data → Read TrxView
trx_by arfcn range entries d = do
  tch ← each (λ place. number_of key.Tch range) 0 entries
  half ← first_nine (half_of tch d)
  Ok (record { arfcn = arfcn; tch = take 9 tch; half = half })

-- a TRX with this carrier, the first of a cell or another
unfoldable pub kept_slots : ℕ → Bool → Data → Read TrxView
kept_slots arfcn first d = do
  value ← value_at key.Tch d
  entries ← array_of key.Tch value
  trx_by arfcn (tch_range first) entries d

-- a TRX of a cell, the first or another
unfoldable pub kept_trx : ℕ → Bool → Data → Read TrxView
kept_trx bcch first d = do
  arfcn ← number_within key.Arfcn (arfcn_range bcch first) d
  kept_slots arfcn first d

-- the value is a number of a range, and that one
abbrev pub is_that : ℕ → Option ℕ → Bool
is_that n None = false
is_that n (Some m) = m == n

abbrev pub is_number : Allowed → ℕ → Data → Bool
is_number range n d = is_that n (allowed_number range d)

-- one of the values is the number
abbrev pub names : Allowed → List Data → ℕ → Bool
names range values n = list_any (is_number range n) values

-- the TRX of a cell
unfoldable pub kept_trx_list : ℕ → Data → Read (List TrxView)
kept_trx_list bcch d = do
  value ← value_at key.Trx d
  entries ← tables_of key.Trx value
  each (λ place. kept_trx bcch (place == 0)) 0 entries

-- an own cell
unfoldable pub kept_cell : Data → Read CellView
kept_cell d = do
  identity ← identity_of d
  power ← number_at key.Power d
  ba ← ba_of d
  trx ← kept_trx_list identity.bcch d
  Ok (record { identity = identity; power = power; ba = ba; trx = trx })

-- the own cells
unfoldable pub kept_cells : Data → Read (List CellView)
kept_cells d = do
  value ← value_at key.Cell d
  entries ← tables_of key.Cell value
  each (λ place. kept_cell) 0 entries

-- a site, once it breaks no rule
unfoldable pub kept_site : Data → Read SiteView
kept_site d = do
  handover ← handover_at d
  cells ← kept_cells d
  outside ← outside_of (get (key_name key.Outside) d)
  checked (record { handover = handover; cells = cells; outside = outside })
