use Rattle.std.proofs.Common.{ap}
use Rattle.radio_tables.proofs.DenseFacts.{same_site}
use Rattle.radio_tables.proofs.dense.DenseTablesTables.vacate_channel.Goals as goal

pub invariant_of-self : goal.invariant_of-self
invariant_of-self g c =
    let t = c.self.inside in
    same_site t.channels.site c.free.new.self.site t.calls t.references.cells t.armed c.self.invariant (ap (λ ch. ch.site) c.free.ensures.freed)
