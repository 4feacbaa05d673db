use Rattle.std.proofs.Common.{◌≡◌, ◌↔◌, subst, Some}
use Rattle.cell_table.specs.Site.{IsCellOf}
use Rattle.cell_table.specs.Searches.{first_cell, has_codes}
use Rattle.cell_table.proofs.Lookups.{cell_of_is}
use Rattle.cell_table.proofs.site.Site.cell_of.Goals as goal

pub returns : goal.returns
returns g c =
    let site = c.self.inside.tables.value in
    let told : c.cell_with.result ≡ first_cell (has_codes c.args.lac c.args.ci) site = rw c.deref.ensures at c.cell_with.ensures.value in
    record {
      value = λ cell. subst (λ s. (c.cell_with.result ≡ Some cell) ↔ IsCellOf s c.args.lac c.args.ci cell) c.self.view_is
          (rw told (cell_of_is site c.self.invariant c.args.lac c.args.ci cell));
    }
