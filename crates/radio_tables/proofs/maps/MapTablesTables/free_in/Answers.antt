use Rattle.std.proofs.Common.{◌∙◌, ap, sym, subst}
use Rattle.cell_table.specs.Site.{TrafficLiesWithin}
use Rattle.radio_tables.specs.Choice.{IsFreeCount}
use Rattle.radio_tables.proofs.Chosen.{count_from_none, none_from_count}
use Rattle.radio_tables.proofs.FreeSet.{free_counted}
use Rattle.radio_tables.proofs.maps.MapTablesTables.free_in.Goals as goal

pub returns-clause-count : goal.returns-clause-count
returns-clause-count g c =
    let b = c.args.self.now in
    let site = subst TrafficLiesWithin (c.deref.ensures ∙ ap (λ b. b.site) c.self.view_is) c.cells-cells.ensures.traffic in
    subst (IsFreeCount b c.args.cell) (sym c.count_free.ensures) (free_counted b c.args.cell site)

pub returns-clause-none : goal.returns-clause-none
returns-clause-none g c =
    let b = c.args.self.now in
    let site = subst TrafficLiesWithin (c.deref.ensures ∙ ap (λ b. b.site) c.self.view_is) c.cells-cells.ensures.traffic in
    (λ e. none_from_count b c.args.cell site (sym c.count_free.ensures ∙ e), λ none. c.count_free.ensures ∙ count_from_none b c.args.cell none)
