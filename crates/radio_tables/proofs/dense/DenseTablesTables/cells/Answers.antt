use Rattle.std.proofs.Common.{length, ap, ◌∙◌, subst}
use Rattle.cell_table.specs.Site.{TrafficLiesWithin}
use Rattle.radio_tables.proofs.dense.DenseTablesTables.cells.Goals as goal

pub returns : goal.returns
returns g c = record {
  value = c.cells.ensures.value ∙ c.self.invariant.rows ∙ ap (λ b. length b.site.cells) c.self.view_is;
  traffic = subst TrafficLiesWithin (ap (λ b. b.site) c.self.view_is) c.self.invariant.lies;
}
