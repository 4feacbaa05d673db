use Rattle.std.proofs.Common.{sym, ap, ◌∙◌}
use Rattle.bts_model.specs.World.{slot_in, changed}
use Rattle.bts_model.proofs.SlotFacts.{slot_put}
use Rattle.bts_model.proofs.world.World.slot_once.Goals as goal

pub returns-in-Some : goal.returns-in-Some
returns-in-Some g c =
    let slots = c.args.self.now.slots in
    sym (ap (λ change. slot_in (changed slots c.args.place change) c.args.place) c.in-Some.is ∙ slot_put slots c.args.place c.in-Some.slot)
