use Rattle.bts_model.proofs.world.World.receive.Goals as goal

pub returns-in-ChannelActivation-clause-comes : goal.returns-in-ChannelActivation-clause-comes
returns-in-ChannelActivation-clause-comes g c =
    let gives = rw c.place_in.ensures at c.activate.ensures.gives in
    rw c.in-ChannelActivation.is gives

pub returns-in-RfChannelRelease-clause-comes : goal.returns-in-RfChannelRelease-clause-comes
returns-in-RfChannelRelease-clause-comes g c =
    let gives = rw c.place_in-in-RfChannelRelease.ensures at c.release.ensures.gives in
    rw c.in-RfChannelRelease.is gives
