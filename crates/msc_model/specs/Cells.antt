-- Which cells the sites of the controllers have, and which of them a cell identifier names.
use Rattle.std.specs.Prelude.{ℕ, Bool, true, ◌==◌, ◌&&◌, not, List, length, find, filter_map, flat_map, Option, Some, None}
use Rattle.std.specs.List.{range_with_len, enumerate_from}
use Rattle.cell_table.specs.declared.tables.CellIdentity.{CellIdentity}
use Rattle.cell_table.specs.Views.{SiteView}
use Rattle.cell_table.specs.Site.{identity_at}
use Rattle.bssmap_messages.specs.declared.message.CellId.{CellId}
use Rattle.msc_model.specs.declared.cell.Cell.{Cell}

-- a cell of controller k, by what identifies it
abbrev pub cell_with : ℕ → Option CellIdentity → Option Cell
cell_with k None = None
cell_with k (Some c) = Some (record { controller = k; lac = c.lac; ci = c.ci })

abbrev pub cell_of : ℕ → SiteView → ℕ → Option Cell
cell_of k site cell = cell_with k (identity_at site cell)

-- the own cells of a site, in their order
abbrev pub cells_of_site : ℕ → SiteView → List Cell
cells_of_site k site = filter_map (cell_of k site) (range_with_len 0 (length site.cells))

-- those of the sites of all controllers
abbrev pub cells_of : List SiteView → List Cell
cells_of sites = flat_map (λ (k, site). cells_of_site k site) (enumerate_from 0 sites)

-- A cell identifier names a cell by location area code and cell identity, or by the latter alone (TS 48.008 clause
-- 3.2.2.17).
abbrev pub has_area : Option ℕ → Cell → Bool
has_area (Some lac) cell = cell.lac == lac
has_area None cell = true

-- the cell is one of another controller than k, and the identifier names it
abbrev pub is_peer_cell : ℕ → CellId → Cell → Bool
is_peer_cell k asked cell = not (cell.controller == k) && ((cell.ci == asked.ci) && has_area asked.lac cell)

-- the cell of another controller than k that the identifier names: the first of them
abbrev pub target_cell : List Cell → ℕ → CellId → Option Cell
target_cell cells k asked = find (is_peer_cell k asked) cells

-- the first cell of controller k
abbrev pub serving_cell : List Cell → ℕ → Option Cell
serving_cell cells k = find (λ c. c.controller == k) cells
