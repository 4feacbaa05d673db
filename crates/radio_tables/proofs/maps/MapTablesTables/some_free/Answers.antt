use Rattle.std.proofs.Common.{◌∙◌, ap, subst}
use Rattle.cell_table.specs.Site.{TrafficLiesWithin}
use Rattle.radio_tables.proofs.Chosen.{if_found, if_none}
use Rattle.radio_tables.proofs.maps.MapTablesTables.some_free.Goals as goal

pub returns-clause-found : goal.returns-clause-found
returns-clause-found g c = if_found c.args.self.now c.args.cell c.args.rate c.first_free.result c.first_free.ensures

pub returns-clause-none : goal.returns-clause-none
returns-clause-none g c =
    let site = subst TrafficLiesWithin (c.deref.ensures ∙ ap (λ b. b.site) c.self.view_is) c.cells-cells.ensures.traffic in
    if_none c.args.self.now c.args.cell c.args.rate site c.first_free.result c.first_free.ensures
