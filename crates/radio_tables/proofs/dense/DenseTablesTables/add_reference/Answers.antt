use Rattle.std.proofs.Common.{length, ap, arith}
use Rattle.radio_tables.proofs.DenseFacts.{same_rows}
use Rattle.radio_tables.proofs.dense.DenseTablesTables.add_reference.Goals as goal

pub set-requires : goal.set-requires
set-requires g c = record { cell = omega (arith, c.requires.cell, ap (λ b. length b.site.cells) c.self.view_is, c.self.invariant.rows) }

pub invariant_of-self : goal.invariant_of-self
invariant_of-self g c =
    let t = c.self.inside in
    same_rows t.channels.site t.calls t.references.cells c.set.new.self.cells t.armed c.self.invariant (ap (λ r. r.cells) c.set.ensures.set)
