-- By which position and code a mobile names a neighbour of the cell that serves it, step by step. No public clause cites
-- it: what a name is stands in `Neighbours`.
use Rattle.std.specs.Prelude.{ℕ, ◌==◌, ◌*◌, ◌+◌, if◌then◌else◌, List, Option, Some, None, option_map, option_and_then, slice_get, count_by}
use Rattle.std.specs.List.{list_any}
use Rattle.cell_table.specs.declared.tables.CellIdentity.{CellIdentity}
use Rattle.cell_table.specs.Views.{SiteView}
use Rattle.cell_table.specs.Site.{identity_at}
use Rattle.cell_table.specs.Searches.{stands_before}

-- the place of a carrier in the neighbour list that a BA list gives, where it is one of them
abbrev pub place_of : List ℕ → ℕ → Option ℕ
place_of ba carrier = if list_any (λ other. other == carrier) ba then Some (count_by (λ other. stands_before other carrier) ba) else None

-- the base station identity code of a cell (TS 23.003 clause 4.3.2)
abbrev pub bsic_of : CellIdentity → ℕ
bsic_of c = c.ncc * 8 + c.bcc

-- a cell's place and code
abbrev pub name_of : List ℕ → CellIdentity → Option (ℕ × ℕ)
name_of ba c = option_map (λ place. (place, bsic_of c)) (place_of ba c.bcch)

-- the name of a cell, own or outside, in an own cell
abbrev pub reported_as : SiteView → ℕ → ℕ → Option (ℕ × ℕ)
reported_as site cell neighbour =
    option_and_then (λ serving. option_and_then (name_of serving.ba) (identity_at site neighbour)) (slice_get site.cells cell)
