use Rattle.std.proofs.Common.{ap, ◌∙◌}
use Rattle.std.proofs.lemmas.Result.{on_err_weaker}
use Rattle.bts_model.specs.Stations.{at_release}
use Rattle.bts_model.proofs.ReleaseFacts.{at_hold}
use Rattle.bts_model.proofs.world.World.release.Goals as goal

pub returns-clause-hold : goal.returns-clause-hold
returns-clause-hold g c =
    let reaction = c.at_release-reaction.ensures ∙ ap at_release c.slot.ensures in
    on_err_weaker c.react.result (at_hold c.args.self.now c.args.place c.at_release-reaction.result reaction) c.react.ensures.memory
