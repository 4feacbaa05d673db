use Rattle.std.proofs.Common.{◌≡◌, ◌∙◌, ap, sym, length, sum_by, rules}
use Rattle.cell_table.specs.Site.{channels}
use Rattle.cell_table.specs.Searches.{cell_size}
use Rattle.cell_table.proofs.Counted.{channels_count}
use Rattle.cell_table.proofs.site.Site.channels.Goals as goal

pub returns : goal.returns
returns g c =
    let site = c.self.inside.tables.value in
    let told : c.cell_sizes.result ≡ sum_by cell_size site.cells = search rules in
    record { count = told ∙ sym (channels_count site c.self.invariant) ∙ ap (λ s. length (channels s)) c.self.view_is }
