-- What the searches of the code answer, step by step. Of public clauses only the law `positions_are_counted` cites it: what
-- they find is said in `Site` and `Neighbours`.
use Rattle.std.specs.Prelude.{ℕ, ◌==◌, ◌+◌, ◌*◌, ◌-◌, ◌/◌, ◌%◌, Bool, false, ◌&&◌, ◌||◌, not, nat_lt, if◌then◌else◌, List, [], ◌∷◌, take, sum_by, count_by, length, Option, Some, None, option_map, option_and_then, slice_get, unwrap_or, find}
use Rattle.std.specs.List.{list_any, position}
use Rattle.timeslots.specs.declared.Sub.{Sub}
use Rattle.timeslots.specs.declared.Sub.TheVariants.{Full, Half0, Half1}
use Rattle.channel_fsm.specs.declared.ChanId.{ChanId}
use Rattle.timeslots.specs.Parts.{sub_number}
use Rattle.cell_table.specs.declared.tables.CellIdentity.{CellIdentity}
use Rattle.cell_table.specs.Views.{TrxView, CellView, SiteView}
use Rattle.cell_table.specs.Limits.{first_outside}
use Rattle.cell_table.specs.declared.fault.SiteFault.{SiteFault}
use Rattle.cell_table.specs.Rules.{same_codes, same_colour, identities, has_no_traffic, first_broken}

-- an own cell before an outside one
abbrev pub own_or_outside : Option ℕ → Option ℕ → Option ℕ
own_or_outside (Some cell) outside = Some cell
own_or_outside None outside = option_map (λ place. first_outside + place) outside

-- the first cell that passes a test, own cells before outside ones
abbrev pub first_cell : (CellIdentity → Bool) → SiteView → Option ℕ
first_cell test site = own_or_outside (position (λ c. test c.identity) site.cells) (position test site.outside)

-- the cell has these codes
abbrev pub has_codes : ℕ → ℕ → CellIdentity → Bool
has_codes lac ci c = (c.lac == lac) && (c.ci == ci)

-- one carrier stands before another in a neighbour list
abbrev pub stands_before : ℕ → ℕ → Bool
stands_before carrier other = not (carrier == 0) && ((other == 0) || nat_lt carrier other)

-- so many carriers of a BA list, of which it is one, stand before a carrier
abbrev pub is_at : List ℕ → ℕ → ℕ → Bool
is_at ba place carrier = list_any (λ other. other == carrier) ba && (count_by (λ other. stands_before other carrier) ba == place)

-- the cell has the base station identity code
abbrev pub has_bsic : ℕ → CellIdentity → Bool
has_bsic bsic c = (c.ncc == bsic / 8) && (c.bcc == bsic % 8)

-- the cell has the code, and its carrier the place
abbrev pub is_named : List ℕ → ℕ → ℕ → CellIdentity → Bool
is_named ba place bsic c = has_bsic bsic c && is_at ba place c.bcch

-- the first cell that the serving cell's neighbour list and a code name
abbrev pub first_named : SiteView → ℕ → ℕ → ℕ → Option ℕ
first_named site serving place bsic = option_and_then (λ ba. first_cell (is_named ba place bsic) site) (option_map (λ c. c.ba) (slice_get site.cells serving))

-- how many traffic channels a TRX and a cell have
abbrev pub trx_size : TrxView → ℕ
trx_size t = length t.tch + (length t.half + length t.half)

abbrev pub cell_size : CellView → ℕ
cell_size c = sum_by trx_size c.trx

-- the number of a channel among all that a TRX can have, by timeslot and part of it
abbrev pub number_of : ℕ → Sub → ℕ
number_of tn sub = tn * 3 + sub_number sub

-- how many of a TRX's channels with this part of a timeslot have a number below one
abbrev pub parts_before : Sub → ℕ → List ℕ → ℕ
parts_before sub number slots = count_by (λ tn. nat_lt (number_of tn sub) number) slots

-- how many traffic channels of a TRX have a number below one
abbrev pub slots_before : ℕ → TrxView → ℕ
slots_before number t = parts_before Full number t.tch + (parts_before Half0 number t.half + parts_before Half1 number t.half)

-- how many traffic channels of a cell come before one
abbrev pub before_in_cell : ChanId → CellView → ℕ
before_in_cell chan c = sum_by trx_size (take chan.trx c.trx) + unwrap_or (option_map (slots_before (number_of chan.tn chan.sub)) (slice_get c.trx chan.trx)) 0

-- how many traffic channels of the cells come before one
abbrev pub channels_before : List CellView → ChanId → ℕ
channels_before cells chan = sum_by cell_size (take chan.cell cells) + unwrap_or (option_map (before_in_cell chan) (slice_get cells chan.cell)) 0

-- the timeslot whose channel with this part of it has a place among the traffic channels of a TRX
abbrev pub part_at : Sub → TrxView → List ℕ → ℕ → Option ℕ
part_at sub t slots place = find (λ tn. slots_before (number_of tn sub) t == place) slots

-- the first of two that is there
abbrev pub first_of : {A : Type 0} → Option A → Option A → Option A
first_of None other = other
first_of (Some x) other = Some x

-- what a traffic channel of a TRX is, with a part of a timeslot
abbrev pub chan_with : ℕ → ℕ → Sub → Option ℕ → Option ChanId
chan_with cell trx sub slot = option_map (λ tn. record { cell = cell; trx = trx; tn = tn; sub = sub }) slot

-- Elements numbered from n on, each with so many places, one behind another: what the element that has a place tells of it,
-- by its number and by how many of its own places come before.
abbrev pub at_place : {A B : Type 0} → (A → ℕ) → (ℕ → A → ℕ → Option B) → ℕ → List A → ℕ → Option B
at_place size tell n [] place = None
at_place size tell n (x ∷ xs) place = if nat_lt place (size x) then tell n x place else at_place size tell (n + 1) xs (place - size x)

-- the traffic channel that has a place in a TRX of a cell, and in a cell
abbrev pub trx_channel : ℕ → ℕ → TrxView → ℕ → Option ChanId
trx_channel cell trx t place =
    first_of (chan_with cell trx Full (part_at Full t t.tch place))
    (first_of (chan_with cell trx Half0 (part_at Half0 t t.half place)) (chan_with cell trx Half1 (part_at Half1 t t.half place)))

abbrev pub cell_channel : ℕ → CellView → ℕ → Option ChanId
cell_channel cell c place = at_place trx_size (trx_channel cell) 0 c.trx place

-- an element is like one that comes after it
abbrev pub has_pair : {A : Type 0} → (A → A → Bool) → List A → Bool
has_pair alike [] = false
has_pair alike (x ∷ xs) = list_any (alike x) xs || has_pair alike xs

abbrev pub has_carrier_pair : CellView → Bool
has_carrier_pair c = has_pair (λ s t. t.arfcn == s.arfcn) c.trx

-- a TRX has one timeslot twice, among those for traffic or among those that also carry halves
abbrev pub slot_pair : TrxView → Bool
slot_pair t = has_pair (λ m n. n == m) t.tch || has_pair (λ m n. n == m) t.half

abbrev pub has_slot_pair : CellView → Bool
has_slot_pair c = list_any slot_pair c.trx

abbrev pub has_neighbour_pair : CellView → Bool
has_neighbour_pair c = has_pair (λ m n. n == m) c.ba

-- the first rule that a site breaks, found by pairs
unfoldable pub broken_by_pairs : SiteView → Option SiteFault
broken_by_pairs site =
    first_broken (has_pair same_codes (identities site)) (has_pair same_colour (identities site)) (list_any has_carrier_pair site.cells)
    (list_any has_slot_pair site.cells) (list_any has_neighbour_pair site.cells) (position has_no_traffic site.cells)
