-- Which cells of a site are neighbours.
use Rattle.std.specs.Prelude.{◌≡◌, ◌≢◌, ℕ, ◌<◌, length, Some, option_map}
use Rattle.cell_table.specs.Views.{SiteView}
use Rattle.cell_table.specs.Site.{identity_at}
use Rattle.cell_table.specs.Neighbours.{IsNamedCell}

-- the numbers that cells may have, own and outside, are below this
abbrev pub cell_numbers : ℕ
cell_numbers = 128

-- mobiles in an own cell name this other one, own or outside, by a position in the cell's neighbour list and a code
abbrev pub IsNeighbour : SiteView → ℕ → ℕ → Type 0
IsNeighbour site cell other = (other ≢ cell) × (place : ℕ) × (bsic : ℕ) × IsNamedCell site cell place bsic other

-- an own cell has a neighbour
abbrev pub HasNeighbour : SiteView → ℕ → Type 0
HasNeighbour site cell = (other : ℕ) × (other < cell_numbers) × IsNeighbour site cell other

-- another own cell is a neighbour of an own cell, which is none of that
abbrev pub IsOneSided : SiteView → ℕ → ℕ → Type 0
IsOneSided site cell other = (other < length site.cells) × IsNeighbour site cell other × ¬ IsNeighbour site other cell

-- another cell, own or outside, has this BCCH carrier
abbrev pub IsCarrierOfAnother : SiteView → ℕ → ℕ → Type 0
IsCarrierOfAnother site cell carrier =
    (other : ℕ) × (other < cell_numbers) × (other ≢ cell) × (option_map (λ c. c.bcch) (identity_at site other) ≡ Some carrier)
