-- Which TRX the sites of the controllers have.
use Rattle.std.specs.Prelude.{ℕ, Bool, ◌==◌, ◌&&◌, List, length, filter_map, flat_map, Option, Some, None, slice_get, option_map, unwrap_or}
use Rattle.std.specs.List.{range_with_len, enumerate_from}
use Rattle.cell_table.specs.declared.tables.CellIdentity.{CellIdentity}
use Rattle.cell_table.specs.Views.{TrxView, SiteView}
use Rattle.cell_table.specs.Site.{trx_at, identity_at}
use Rattle.bts_model.specs.declared.place.Place.{Place}
use Rattle.bts_model.specs.declared.trx.Trx.{Trx}

-- a TRX with the colour of its cell
abbrev pub trx_with : ℕ → ℕ → ℕ → Option CellIdentity → Option TrxView → Option Trx
trx_with k cell trx (Some c) (Some t) = Some (record { controller = k; cell = cell; trx = trx; bcch = c.bcch; ncc = c.ncc; bcc = c.bcc; carrier = t.arfcn })
trx_with k cell trx (Some c) None = None
trx_with k cell trx None t = None

-- a TRX of the site of controller k
abbrev pub trx_of : ℕ → SiteView → ℕ → ℕ → Option Trx
trx_of k site cell trx = trx_with k cell trx (identity_at site cell) (trx_at site cell trx)

abbrev pub trx_count : SiteView → ℕ → ℕ
trx_count site cell = unwrap_or (option_map (λ c. length c.trx) (slice_get site.cells cell)) 0

-- the TRX of a cell, in their order
abbrev pub trxs_of_cell : ℕ → SiteView → ℕ → List Trx
trxs_of_cell k site cell = filter_map (trx_of k site cell) (range_with_len 0 (trx_count site cell))

-- those of the own cells of a site
abbrev pub trxs_of_site : ℕ → SiteView → List Trx
trxs_of_site k site = flat_map (trxs_of_cell k site) (range_with_len 0 (length site.cells))

-- those of the sites of all controllers
abbrev pub trxs_of : List SiteView → List Trx
trxs_of sites = flat_map (λ (k, site). trxs_of_site k site) (enumerate_from 0 sites)

-- the channel is one of the TRX
abbrev pub is_on : Place → Trx → Bool
is_on x t = (t.controller == x.controller) && ((t.cell == x.channel.cell) && (t.trx == x.channel.trx))
