-- What a site file says, read off the TOML document that it is: each check in its order, and the first that fails.
use Rattle.std.specs.Prelude.{ℕ, suc, ◌==◌, ℤ, pos, negsuc, nat_le, Bool, ◌&&◌, if◌then◌else◌, Option, Some, None, option_map, option_and_then, ok_or, is_some, Result, Ok, Err, List, [], ◌∷◌, length, codes}
use Rattle.std.specs.List.{list_any, list_all}
use Rattle.toml.specs.Data.{Data, Items, no_items, item, table, get, as_array, as_integer, as_table}
use Rattle.toml.specs.Errors.{IsBlank}
use Rattle.toml.specs.Parse.{parse_document}
use Rattle.cell_table.specs.declared.fault.Key.{Key}
use Rattle.cell_table.specs.declared.fault.Key.TheVariants as key
use Rattle.cell_table.specs.declared.fault.SiteFault.{SiteFault}
use Rattle.cell_table.specs.declared.fault.SiteFault.TheVariants.{Toml, Missing, Range}
use Rattle.cell_table.specs.declared.tables.CellIdentity.{CellIdentity}
use Rattle.cell_table.specs.declared.tables.HandoverRule.{HandoverRule}
use Rattle.cell_table.specs.declared.ranges.Allowed.{Allowed}
use Rattle.cell_table.specs.Ranges.{up_to, allowed, arfcn_range, tch_range}
use Rattle.cell_table.specs.Site.{TrxView, CellView, SiteView}
use Rattle.cell_table.specs.Limits.{most_neighbours}
use Rattle.cell_table.specs.Rules.{checked}

-- what is read, or the first check that fails
abbrev pub Read : Type 0 → Type 0
Read A = Result A SiteFault

infixl 10 ◌>>=◌
-- the next check comes once those before have passed
abbrev pub ◌>>=◌ : {A B : Type 0} → Read A → (A → Read B) → Read B
(Ok x) >>= f = f x
(Err e) >>= f = Err e

-- the key as it stands in the file
abbrev pub key_name : Key → List ℕ
key_name key.Handover = codes "handover"
key_name key.Window = codes "window"
key_name key.Margin = codes "margin"
key_name key.Minimum = codes "minimum"
key_name key.Cell = codes "cell"
key_name key.Lac = codes "lac"
key_name key.Ci = codes "ci"
key_name key.Bcch = codes "bcch"
key_name key.Ncc = codes "ncc"
key_name key.Bcc = codes "bcc"
key_name key.Power = codes "power"
key_name key.Ba = codes "ba"
key_name key.Trx = codes "trx"
key_name key.Arfcn = codes "arfcn"
key_name key.Tch = codes "tch"
key_name key.Half = codes "half"
key_name key.Outside = codes "outside"

-- the value at a key, which has to be there
abbrev pub value_at : Key → Data → Read Data
value_at key d = ok_or (get (key_name key) d) (Missing key)

-- the number is one of those allowed
abbrev pub is_allowed : Allowed → ℕ → Bool
is_allowed range n = nat_le range.least n && nat_le n range.most

-- a natural number
abbrev pub natural_number : ℤ → Option ℕ
natural_number (pos n) = Some n
natural_number (negsuc n) = None

-- what is there, where it passes a test
abbrev pub where_passes : {A : Type 0} → (A → Bool) → Option A → Option A
where_passes test o = option_and_then (λ x. if test x then Some x else None) o

-- the integer that a value is, where it is allowed
abbrev pub allowed_number : Allowed → Data → Option ℕ
allowed_number range d = where_passes (is_allowed range) (option_and_then natural_number (as_integer d))

-- the value of a key, or an entry of it, is an integer within a range
abbrev pub number_of : Key → Allowed → Data → Read ℕ
number_of key range d = ok_or (allowed_number range d) (Range key)

-- the number at a key, within a range
unfoldable pub number_within : Key → Allowed → Data → Read ℕ
number_within key range d = do
  value ← value_at key d
  number_of key range value

-- the number at a key, one that the key allows
abbrev pub number_at : Key → Data → Read ℕ
number_at key d = number_within key (allowed key) d

-- the entries of an array
abbrev pub entries_of : Items → List Data
entries_of no_items = []
entries_of (item d ds) = d ∷ entries_of ds

-- the value of a key is an array
abbrev pub array_of : Key → Data → Read (List Data)
array_of key d = ok_or (option_map entries_of (as_array d)) (Range key)

-- a value is a table
abbrev pub is_table : Data → Bool
is_table d = is_some (as_table d)

-- so many entries are allowed
abbrev pub counted : Key → Allowed → List Data → Read (List Data)
counted key count entries = if is_allowed count (length entries) then Ok entries else Err (Range key)

-- each entry is a table
abbrev pub all_tables : Key → List Data → Read (List Data)
all_tables key entries = if list_all is_table entries then Ok entries else Err (Range key)

-- the value of a key is an array of tables, as many as are allowed
unfoldable pub tables_of : Key → Data → Read (List Data)
tables_of key d = do
  entries ← array_of key d
  entries ← counted key (allowed key) entries
  all_tables key entries

-- each entry as it is read at its place; the first check that fails, entry by entry
abbrev pub each : {A : Type 0} → (ℕ → Data → Read A) → ℕ → List Data → Read (List A)
each read place [] = Ok []
each read place (d ∷ ds) = do
  x ← read place d
  xs ← each read (suc place) ds
  Ok (x ∷ xs)

-- the table at `handover`: when a neighbour is a candidate
unfoldable pub handover_of : Data → Read HandoverRule
handover_of d = do
  window ← number_at key.Window d
  margin ← number_at key.Margin d
  minimum ← number_at key.Minimum d
  Ok (record { window = window; margin = margin; minimum = minimum })

-- What every cell has: location area code and cell identity (TS 23.003 clause 4.3), and its colour: BCCH carrier,
-- network and base station colour code (TS 23.003 clause 4.3.2).
unfoldable pub identity_of : Data → Read CellIdentity
identity_of d = do
  lac ← number_at key.Lac d
  ci ← number_at key.Ci d
  bcch ← number_at key.Bcch d
  ncc ← number_at key.Ncc d
  bcc ← number_at key.Bcc d
  Ok (record { lac = lac; ci = ci; bcch = bcch; ncc = ncc; bcc = bcc })

-- the BA list: no more carriers than it may have
unfoldable pub ba_of : Data → Read (List ℕ)
ba_of d = do
  value ← value_at key.Ba d
  entries ← array_of key.Ba value
  carriers ← counted key.Ba (up_to most_neighbours) entries
  each (λ place. number_of key.Ba (allowed key.Ba)) 0 carriers

-- the traffic timeslots of a TRX
unfoldable pub tch_of : Bool → Data → Read (List ℕ)
tch_of first d = do
  value ← value_at key.Tch d
  entries ← array_of key.Tch value
  each (λ place. number_of key.Tch (tch_range first)) 0 entries

-- a timeslot that also carries halves: one that passes the test
unfoldable pub half_slot : (ℕ → Bool) → Data → Read ℕ
half_slot test d = do
  tn ← number_of key.Half (allowed key.Half) d
  if test tn then Ok tn else Err (Range key.Half)

-- those of a TRX; the key may be absent
unfoldable pub halves_by : (ℕ → Bool) → Option Data → Read (List ℕ)
halves_by test None = Ok []
halves_by test (Some value) = do
  entries ← array_of key.Half value
  each (λ place. half_slot test) 0 entries

-- the timeslots that also carry halves: each is one of the traffic timeslots
abbrev pub half_of : List ℕ → Data → Read (List ℕ)
half_of slots d = halves_by (λ tn. list_any (λ n. n == tn) slots) (get (key_name key.Half) d)

-- a TRX of a cell, the first or another
unfoldable pub trx_of : ℕ → Bool → Data → Read TrxView
trx_of bcch first d = do
  arfcn ← number_within key.Arfcn (arfcn_range bcch first) d
  tch ← tch_of first d
  half ← half_of tch d
  Ok (record { arfcn = arfcn; tch = tch; half = half })

-- the TRX of a cell: one, or more
unfoldable pub all_trx_of : ℕ → Data → Read (List TrxView)
all_trx_of bcch d = do
  value ← value_at key.Trx d
  entries ← tables_of key.Trx value
  each (λ place. trx_of bcch (place == 0)) 0 entries

-- an own cell
unfoldable pub cell_of : Data → Read CellView
cell_of d = do
  identity ← identity_of d
  power ← number_at key.Power d
  ba ← ba_of d
  trx ← all_trx_of identity.bcch d
  Ok (record { identity = identity; power = power; ba = ba; trx = trx })

-- the own cells: one, or more
unfoldable pub cells_of : Data → Read (List CellView)
cells_of d = do
  value ← value_at key.Cell d
  entries ← tables_of key.Cell value
  each (λ place. cell_of) 0 entries

-- the cells of others; the key may be absent
unfoldable pub outside_of : Option Data → Read (List CellIdentity)
outside_of None = Ok []
outside_of (Some value) = do
  entries ← tables_of key.Outside value
  each (λ place. identity_of) 0 entries

-- the table at `handover` has to be there
unfoldable pub handover_at : Data → Read HandoverRule
handover_at d = do
  value ← value_at key.Handover d
  if is_table value then handover_of value else Err (Range key.Handover)

-- all keys of a document, and then what holds of several of them
unfoldable pub site_of : Data → Read SiteView
site_of d = do
  handover ← handover_at d
  cells ← cells_of d
  outside ← outside_of (get (key_name key.Outside) d)
  checked (record { handover = handover; cells = cells; outside = outside })

-- what a site file says: the site, or the first check that fails
abbrev pub read_site : List ℕ → Read SiteView
read_site text = ok_or (parse_document text) Toml >>= (λ document. site_of (table document))

-- the site that a text describes, if it describes one
abbrev pub read_value : {A : Type 0} → Read A → Option A
read_value (Ok x) = Some x
read_value (Err fault) = None

abbrev pub described_site : List ℕ → Option SiteView
described_site text = read_value (read_site text)

-- the text has only white space and comments: a document without keys
abbrev pub IsBlankFile : List ℕ → Type 0
IsBlankFile text = IsBlank text
