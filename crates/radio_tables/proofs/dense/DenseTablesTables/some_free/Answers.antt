use Rattle.std.proofs.Common.{IfSome, IfNone, subst}
use Rattle.radio_tables.specs.Choice.{IsFreeAt, NoneFreeAt}
use Rattle.radio_tables.proofs.DenseFacts.{found_free, none_free}
use Rattle.radio_tables.proofs.dense.DenseTablesTables.some_free.Goals as goal

pub returns-clause-found : goal.returns-clause-found
returns-clause-found g c =
    let t = c.self.inside in
    subst (λ b. IfSome c.lowest_free.result (λ x. IsFreeAt b c.args.cell c.args.rate x)) c.self.view_is
    (found_free t.channels t.calls t.references.users c.args.cell c.args.rate c.lowest_free.result c.lowest_free.ensures.found)

pub returns-clause-none : goal.returns-clause-none
returns-clause-none g c =
    let t = c.self.inside in
    subst (λ b. IfNone c.lowest_free.result (NoneFreeAt b c.args.cell c.args.rate)) c.self.view_is
    (none_free t.channels t.calls t.references.users c.args.cell c.args.rate c.lowest_free.result c.lowest_free.ensures.none)
