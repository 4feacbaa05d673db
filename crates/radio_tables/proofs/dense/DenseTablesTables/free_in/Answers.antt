use Rattle.std.proofs.Common.{sym, ap, ◌∙◌, subst}
use Rattle.cell_table.specs.Site.{TrafficLiesWithin}
use Rattle.radio_tables.specs.Choice.{IsFreeCount}
use Rattle.radio_tables.specs.Places.{free_in}
use Rattle.radio_tables.proofs.Chosen.{count_from_none, none_from_count}
use Rattle.radio_tables.proofs.DenseFacts.{same_count}
use Rattle.radio_tables.proofs.FreeSet.{free_counted}
use Rattle.radio_tables.proofs.dense.DenseTablesTables.free_in.Goals as goal

pub returns : goal.returns
returns g c =
    let t = c.self.inside in
    let b = c.args.self.now in
    let counted = c.free_in.ensures.count ∙ same_count t.channels t.calls t.references.users c.args.cell ∙ ap (λ s. free_in s c.args.cell) c.self.view_is in
    let lies = subst TrafficLiesWithin (ap (λ s. s.site) c.self.view_is) c.self.invariant.lies in
    record {
      count = subst (IsFreeCount b c.args.cell) (sym counted) (free_counted b c.args.cell lies);
      none = (λ e. none_from_count b c.args.cell lies (sym counted ∙ e), λ none. counted ∙ count_from_none b c.args.cell none);
    }
