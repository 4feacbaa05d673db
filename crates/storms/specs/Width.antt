-- What a site has to have for a storm of so many calls. Ours, of no standard.
use Rattle.std.specs.Prelude.{◌≡◌, ℕ, ◌<◌, ◌≤◌, ◌*◌, ◌/◌, ◌%◌, List, length, map, filter}
use Rattle.std.specs.List.{range_with_len}
use Rattle.std.specs.Int.{div_ceil}
use Rattle.timeslots.specs.declared.Sub.TheVariants.{Full}
use Rattle.channel_fsm.specs.declared.ChanId.{ChanId}
use Rattle.cell_table.specs.Limits.{most_trx, timeslots_of_trx}
use Rattle.cell_table.specs.Site.{SiteView, is_traffic}
use Rattle.storms.specs.declared.trip.Shortage.{Shortage}
use Rattle.storms.specs.declared.trip.Shortage.TheVariants.{OneCell, Channels}
use Rattle.storms.specs.declared.trip.TripFault.{TripFault}
use Rattle.storms.specs.declared.trip.TripFault.TheVariants.{Short, NoMemory}

-- the channel at a place among the full-rate ones that a cell can have, by TRX, then timeslot
abbrev pub place_in : ℕ → ℕ → ChanId
place_in cell place = record { cell = cell; trx = place / timeslots_of_trx; tn = place % timeslots_of_trx; sub = Full }

-- every full-rate channel that a cell can have, by TRX, then timeslot
unfoldable pub places_of : ℕ → List ChanId
places_of cell = map (place_in cell) (range_with_len 0 (most_trx * timeslots_of_trx))

-- the full-rate traffic channels of a cell, in that order: storms use no others
abbrev pub traffic_of : SiteView → ℕ → List ChanId
traffic_of site cell = filter (is_traffic site) (places_of cell)

-- How many full-rate traffic channels each cell needs. Calls are dealt out to the cells in turn, and as many as begin in
-- one may come.
abbrev pub needed : ℕ → ℕ → ℕ
needed cells calls = 2 * div_ceil calls cells

-- each of the first n cells has so many
abbrev pub AllHave : SiteView → ℕ → ℕ → Type 0
AllHave site many n = (cell : ℕ) → cell < n → many ≤ length (traffic_of site cell)

-- a site is wide enough
pub record IsWide (site : SiteView) (calls : ℕ) : Type 0 where
  pub cells : 2 ≤ length site.cells
  pub channels : AllHave site (needed (length site.cells) calls) (length site.cells)

-- the first cell that has fewer than so many
pub record IsShortCell (site : SiteView) (many cell channels : ℕ) : Type 0 where
  pub within : cell < length site.cells
  pub before : AllHave site many cell
  pub has : channels ≡ length (traffic_of site cell)
  pub fewer : channels < many

-- what a site lacks that isn't wide enough
abbrev pub IsShortage : SiteView → ℕ → Shortage → Type 0
IsShortage site calls OneCell = length site.cells < 2
IsShortage site calls (Channels cell channels many) = (2 ≤ length site.cells) × (many ≡ needed (length site.cells) calls) × IsShortCell site many cell channels

-- why no trips are made: the site lacks something; or it is wide enough, and memory was refused
abbrev pub IsTripFault : SiteView → ℕ → TripFault → Type 0
IsTripFault site calls (Short shortage) = IsShortage site calls shortage
IsTripFault site calls NoMemory = IsWide site calls
