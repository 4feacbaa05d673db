use Rattle.std.proofs.Common.{◌≡◌, ◌↔◌, subst, Some}
use Rattle.cell_table.specs.Neighbours.{IsNamedCell}
use Rattle.cell_table.specs.Searches.{first_named}
use Rattle.cell_table.proofs.NeighbourFacts.{named_is}
use Rattle.cell_table.proofs.site.Site.by_bsic.Goals as goal

pub returns : goal.returns
returns g c =
    let site = c.self.inside.tables.value in
    let told : c.neighbour_named.result ≡ first_named site c.args.cell c.args.position c.args.bsic = rw c.deref.ensures at c.neighbour_named.ensures.value in
    record {
      value = λ cell. subst (λ s. (c.neighbour_named.result ≡ Some cell) ↔ IsNamedCell s c.args.cell c.args.position c.args.bsic cell) c.self.view_is
          (rw told (named_is site c.self.invariant c.args.cell c.args.position c.args.bsic cell));
    }
