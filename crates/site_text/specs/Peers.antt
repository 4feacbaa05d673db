-- How the outside cells of a site are the cells of its peer's site.
use Rattle.std.specs.Prelude.{◌≡◌, ℕ, ◌<◌, length, Some, option_map}
use Rattle.cell_table.specs.Views.{SiteView}
use Rattle.cell_table.specs.Site.{identity_at, IsCellOf}

-- this own cell of the peer has the location area code and the cell identity of an outside cell (TS 23.003 clauses 4.1 and 4.3.1)
abbrev pub IsCellAtPeer : SiteView → ℕ → SiteView → ℕ → Type 0
IsCellAtPeer site outside peer cell =
    (cell < length peer.cells) × (area : ℕ) × (identity : ℕ) × IsCellOf site area identity outside × IsCellOf peer area identity cell

-- a cell has the BCCH carrier of a peer's cell, or neither is there
abbrev pub HasCarrierOf : SiteView → ℕ → SiteView → ℕ → Type 0
HasCarrierOf site cell peer at_peer = option_map (λ c. c.bcch) (identity_at site cell) ≡ option_map (λ c. c.bcch) (identity_at peer at_peer)

-- a cell has the colour codes of a peer's cell (TS 23.003 clause 4.3.2), or neither is there
abbrev pub HasColourOf : SiteView → ℕ → SiteView → ℕ → Type 0
HasColourOf site cell peer at_peer =
    (option_map (λ c. c.ncc) (identity_at site cell) ≡ option_map (λ c. c.ncc) (identity_at peer at_peer))
    × (option_map (λ c. c.bcc) (identity_at site cell) ≡ option_map (λ c. c.bcc) (identity_at peer at_peer))
