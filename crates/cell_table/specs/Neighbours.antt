-- The neighbour list of a cell, and the cell that a measurement report names by a position in it and a colour.
use Rattle.std.specs.Prelude.{◌≡◌, ℕ, ◌==◌, ◌/◌, ◌%◌, List, [], ◌∷◌, ◌++◌, Option, Some, option_map, option_and_then, slice_get, filter}
use Rattle.std.specs.List.{list_any, range_with_len}
use Rattle.cell_table.specs.Views.{SiteView}
use Rattle.cell_table.specs.Limits.{most_carrier}
use Rattle.cell_table.specs.Site.{identity_at}

-- All carriers, in the order in which neighbour lists have them: ascending, but carrier 0 last (TS 44.018 clause
-- 10.5.2.20).
unfoldable pub all_carriers : List ℕ
all_carriers = range_with_len 1 most_carrier ++ 0 ∷ []

-- the neighbour list that a BA list gives: its carriers in that order
abbrev pub neighbour_list : List ℕ → List ℕ
neighbour_list ba = filter (λ carrier. list_any (λ other. other == carrier) ba) all_carriers

-- the carrier at a position of an own cell's neighbour list, counted from 0
abbrev pub neighbour_at : SiteView → ℕ → ℕ → Option ℕ
neighbour_at site cell place = option_and_then (λ c. slice_get (neighbour_list c.ba) place) (slice_get site.cells cell)

-- A mobile in the serving cell names this cell, own or outside, by a position in the neighbour list and a base station
-- identity code: the cell's BCCH carrier stands at the position, its network colour code is the high three bits of the
-- code, its base station colour code the low three (TS 23.003 clause 4.3.2).
pub record IsNamedCell (site : SiteView) (serving place bsic cell : ℕ) : Type 0 where
  pub carrier : option_map (λ c. c.bcch) (identity_at site cell) ≡ neighbour_at site serving place
  pub network : option_map (λ c. c.ncc) (identity_at site cell) ≡ Some (bsic / 8)
  pub station : option_map (λ c. c.bcc) (identity_at site cell) ≡ Some (bsic % 8)
