-- What a report names by a position and a code, and why it is no cell.
use Rattle.std.specs.Prelude.{◌≡◌, ◌≢◌, ℕ, Some, None, option_map}
use Rattle.cell_table.specs.Views.{SiteView}
use Rattle.cell_table.specs.Site.{identity_at}
use Rattle.cell_table.specs.Neighbours.{IsNamedCell, neighbour_at}
use Rattle.decisions.specs.declared.named.Named.{Named}
use Rattle.decisions.specs.declared.named.Named.TheVariants.{Cell, Serving, NoPosition, NoCell, OtherCode}

-- some cell, own or outside, has this BCCH carrier
abbrev pub HasCarrier : SiteView → ℕ → Type 0
HasCarrier site carrier = (cell : ℕ) × (option_map (λ c. c.bcch) (identity_at site cell) ≡ Some carrier)

-- why a position names no cell by any code, or by one code
abbrev pub IsWhyNone : SiteView → ℕ → ℕ → Named → Type 0
IsWhyNone site serving position (Cell cell) = ⊥
IsWhyNone site serving position Serving = ⊥
IsWhyNone site serving position NoPosition = neighbour_at site serving position ≡ None
IsWhyNone site serving position (NoCell carrier) = (neighbour_at site serving position ≡ Some carrier) × ¬ HasCarrier site carrier
IsWhyNone site serving position (OtherCode carrier) = (neighbour_at site serving position ≡ Some carrier) × HasCarrier site carrier

-- Mobiles in the serving cell name this by a position in the neighbour list and a code (TS 44.018 clause 10.5.2.20): another
-- cell, or the serving one; or none, since nothing is at the position, no cell has the carrier there, or none of those that have
-- it has the code.
abbrev pub IsNamed : SiteView → ℕ → ℕ → ℕ → Named → Type 0
IsNamed site serving position bsic (Cell cell) = (cell ≢ serving) × IsNamedCell site serving position bsic cell
IsNamed site serving position bsic Serving = IsNamedCell site serving position bsic serving
IsNamed site serving position bsic NoPosition = IsWhyNone site serving position NoPosition
IsNamed site serving position bsic (NoCell carrier) = IsWhyNone site serving position (NoCell carrier)
IsNamed site serving position bsic (OtherCode carrier) =
    IsWhyNone site serving position (OtherCode carrier) × ((cell : ℕ) → ¬ IsNamedCell site serving position bsic cell)
