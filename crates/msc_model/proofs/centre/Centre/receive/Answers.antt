use Rattle.std.proofs.Common.{subst}
use Rattle.bssmap_messages.specs.Texts.{IsTextOf}
use Rattle.bssmap_messages.proofs.LayerThree.{short_layer_3}
use Rattle.msc_model.proofs.centre.Centre.receive.Goals as goal

pub acknowledge-requires-clause-some : goal.acknowledge-requires-clause-some
acknowledge-requires-clause-some g c =
    let text = subst (λ m. IsTextOf m c.requires.said.0) c.in-HandoverRequestAck.is c.requires.said.1 in
    (short_layer_3 _ c.requires.said.0 text).0

pub acknowledge-requires-clause-short : goal.acknowledge-requires-clause-short
acknowledge-requires-clause-short g c =
    let text = subst (λ m. IsTextOf m c.requires.said.0) c.in-HandoverRequestAck.is c.requires.said.1 in
    (short_layer_3 _ c.requires.said.0 text).1
