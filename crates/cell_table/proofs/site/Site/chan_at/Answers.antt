use Rattle.std.proofs.Common.{◌≡◌, ◌↔◌, ◌∙◌, ap, subst, Some, slice_get, rules}
use Rattle.cell_table.specs.Site.{channels, index_of}
use Rattle.cell_table.specs.Searches.{cell_size, cell_channel, at_place}
use Rattle.cell_table.proofs.Placed.{placed, placed_by_index}
use Rattle.cell_table.proofs.site.Site.chan_at.Goals as goal

pub returns-clause-value : goal.returns-clause-value
returns-clause-value g c =
    let site = c.self.inside.tables.value in
    let told : c.channel_of_cells.result ≡ at_place cell_size cell_channel 0 site.cells c.args.index = search rules in
    told ∙ placed site c.self.invariant c.args.index ∙ ap (λ s. slice_get (channels s) c.args.index) c.self.view_is

pub returns-clause-inverse : goal.returns-clause-inverse
returns-clause-inverse g c chan =
    let site = c.self.inside.tables.value in
    let told : c.channel_of_cells.result ≡ at_place cell_size cell_channel 0 site.cells c.args.index = search rules in
    subst (λ s. (c.channel_of_cells.result ≡ Some chan) ↔ (index_of s chan ≡ Some c.args.index)) c.self.view_is
    (rw told (placed_by_index site c.self.invariant c.args.index chan))
