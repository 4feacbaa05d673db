-- What a site is, and what is looked up in it.
use Rattle.std.specs.Prelude.{ℕ, ◌==◌, ◌<◌, ◌≤◌, ◌≡◌, ◌-◌, Bool, true, false, nat_lt, if◌then◌else◌, List, [], ◌∷◌, length, map, filter, flat_map, All, Option, Some, None, slice_get, option_map, option_and_then, unwrap_or}
use Rattle.std.specs.List.{list_any, position, range_with_len}
use Rattle.timeslots.specs.declared.Sub.{Sub}
use Rattle.timeslots.specs.declared.Sub.TheVariants.{Full, Half0, Half1}
use Rattle.channel_fsm.specs.declared.ChanId.{ChanId}
use Rattle.channel_fsm.specs.Keys.{same_chan}
use Rattle.cell_table.specs.declared.tables.CellIdentity.{CellIdentity}
use Rattle.cell_table.specs.declared.tables.HandoverRule.{HandoverRule}
pub use Rattle.cell_table.specs.Views.{TrxView, CellView, SiteView, site_code}
use Rattle.cell_table.specs.declared.fault.Key.TheVariants as key
use Rattle.cell_table.specs.Limits.{most_cells, first_outside, most_trx, timeslots_of_trx, most_neighbours}
use Rattle.cell_table.specs.Ranges.{IsAllowed}
use Rattle.cell_table.specs.Rules.{broken_rule}

-- a TRX of an own cell
abbrev pub trx_at : SiteView → ℕ → ℕ → Option TrxView
trx_at site cell trx = option_and_then (λ c. slice_get c.trx trx) (slice_get site.cells cell)

-- what identifies a cell, own or outside
abbrev pub identity_at : SiteView → ℕ → Option CellIdentity
identity_at site cell =
    if nat_lt cell first_outside then option_map (λ c. c.identity) (slice_get site.cells cell) else slice_get site.outside (cell - first_outside)

-- the timeslots of a TRX that carry traffic as a whole, and those that carry it as halves
abbrev pub slots_with : Sub → TrxView → List ℕ
slots_with Full t = t.tch
slots_with Half0 t = t.half
slots_with Half1 t = t.half

-- the timeslots of a TRX of a cell that carry traffic with this part of them; a TRX that the site doesn't have has none
abbrev pub timeslots : SiteView → ℕ → ℕ → Sub → List ℕ
timeslots site cell trx sub = unwrap_or (option_map (slots_with sub) (trx_at site cell trx)) []

-- the site names the channel as a traffic channel
abbrev pub is_traffic : SiteView → ChanId → Bool
is_traffic site chan = list_any (λ tn. tn == chan.tn) (timeslots site chan.cell chan.trx chan.sub)

-- the cell, own or outside, has this location area code and cell identity (TS 23.003 clause 4.3)
pub record IsCellOf (site : SiteView) (area identity cell : ℕ) : Type 0 where
  pub lac : option_map (λ c. c.lac) (identity_at site cell) ≡ Some area
  pub ci : option_map (λ c. c.ci) (identity_at site cell) ≡ Some identity

-- every channel that a TRX can have, by timeslot, and a whole timeslot before its halves (TS 45.002 clauses 4.3.2 and 6.4.1)
abbrev pub parts_of : ℕ → ℕ → ℕ → List ChanId
parts_of cell trx tn = map (λ sub. record { cell = cell; trx = trx; tn = tn; sub = sub }) (Full ∷ Half0 ∷ Half1 ∷ [])

abbrev pub trx_channels : ℕ → ℕ → List ChanId
trx_channels cell trx = flat_map (parts_of cell trx) (range_with_len 0 timeslots_of_trx)

-- every channel that a site can have, by cell, TRX, timeslot and part of it
unfoldable pub all_channels : List ChanId
all_channels = flat_map (λ cell. flat_map (trx_channels cell) (range_with_len 0 most_trx)) (range_with_len 0 most_cells)

-- the traffic channels of the site, in that order
abbrev pub channels : SiteView → List ChanId
channels site = filter (is_traffic site) all_channels

-- the place of a channel among the traffic channels of the site
abbrev pub index_of : SiteView → ChanId → Option ℕ
index_of site chan = position (same_chan chan) (channels site)

-- the first TRX names timeslot 0, which carries the cell's broadcast channels (TS 45.002 clause 7) and never traffic
abbrev pub names_broadcast : CellView → Bool
names_broadcast cell = list_any (λ tn. tn == 0) (unwrap_or (option_map (λ t. t.tch) (slice_get cell.trx 0)) [])

-- The rule of candidates has what its keys allow.
pub record IsHandoverRule (rule : HandoverRule) : Type 0 where
  pub window : IsAllowed key.Window rule.window
  pub margin : IsAllowed key.Margin rule.margin
  pub minimum : IsAllowed key.Minimum rule.minimum

-- So has what identifies a cell: its colour fits a Cell Description (TS 44.018 clause 10.5.2.2).
pub record IsIdentity (identity : CellIdentity) : Type 0 where
  pub lac : IsAllowed key.Lac identity.lac
  pub ci : IsAllowed key.Ci identity.ci
  pub bcch : IsAllowed key.Bcch identity.bcch
  pub ncc : IsAllowed key.Ncc identity.ncc
  pub bcc : IsAllowed key.Bcc identity.bcc

-- So has a timeslot that also carries halves: it is one of the traffic timeslots.
pub record IsHalf (slots : List ℕ) (tn : ℕ) : Type 0 where
  pub range : IsAllowed key.Half tn
  pub traffic : list_any (λ n. n == tn) slots ≡ true

-- So has a cell. Its first TRX has its BCCH carrier, and leaves the broadcast channel alone.
pub record IsCell (cell : CellView) : Type 0 where
  pub identity : IsIdentity cell.identity
  pub power : IsAllowed key.Power cell.power
  pub few_neighbours : length cell.ba ≤ most_neighbours
  pub neighbours : All (IsAllowed key.Ba) cell.ba
  pub trx_count : IsAllowed key.Trx (length cell.trx)
  pub carriers : All (λ t. IsAllowed key.Arfcn t.arfcn) cell.trx
  pub slots : All (λ t. All (IsAllowed key.Tch) t.tch) cell.trx
  pub halves : All (λ t. All (IsHalf t.tch) t.half) cell.trx
  pub first_carrier : option_map (λ t. t.arfcn) (slice_get cell.trx 0) ≡ Some cell.identity.bcch
  pub broadcast : names_broadcast cell ≡ false

-- A site has as many cells, own and outside, as their keys allow, and each of its cells is one.
pub record IsWithin (site : SiteView) : Type 0 where
  pub handover : IsHandoverRule site.handover
  pub cell_count : IsAllowed key.Cell (length site.cells)
  pub outside_count : IsAllowed key.Outside (length site.outside)
  pub each_cell : All IsCell site.cells
  pub each_outside : All IsIdentity site.outside

-- A site keeps the limits, and breaks no rule.
pub record IsSite (site : SiteView) : Type 0 where
  pub within : IsWithin site
  pub rules : broken_rule site ≡ None

-- Where every traffic channel of a site lies.
pub record IsWithinLimits (chan : ChanId) : Type 0 where
  pub cell : chan.cell < most_cells
  pub trx : chan.trx < most_trx
  pub timeslot : chan.tn < timeslots_of_trx

-- every traffic channel of a site lies there
abbrev pub TrafficLiesWithin : SiteView → Type 0
TrafficLiesWithin site = (chan : ChanId) → is_traffic site chan ≡ true → IsWithinLimits chan
