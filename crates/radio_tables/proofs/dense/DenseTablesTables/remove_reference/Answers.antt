use Rattle.std.proofs.Common.{ap}
use Rattle.radio_tables.proofs.DenseFacts.{same_rows}
use Rattle.radio_tables.proofs.dense.DenseTablesTables.remove_reference.Goals as goal

pub invariant_of-self : goal.invariant_of-self
invariant_of-self g c =
    let t = c.self.inside in
    same_rows t.channels.site t.calls t.references.cells c.remove.new.self.cells t.armed c.self.invariant (ap (λ r. r.cells) c.remove.ensures.removed)
