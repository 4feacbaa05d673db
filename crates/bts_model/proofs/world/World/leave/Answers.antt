use Rattle.std.proofs.Common.{sym, ap, ◌∙◌, map}
use Rattle.std.specs.Option.{option_or}
use Rattle.bts_model.specs.World.{WorldState, slot_in, changed, with_slot}
use Rattle.bts_model.specs.Answers.{out_of}
use Rattle.bts_model.specs.Departures.{slot_after, all_departed}
use Rattle.bts_model.proofs.SlotFacts.{changed_twice}
use Rattle.bts_model.proofs.world.World.leave.Goals as goal

-- the two changes of the channel are made at once
pub returns-clause-gives : goal.returns-clause-gives
returns-clause-gives g c =
    let x = c.args.place in
    let answers = c.args.answers.now in
    let slots = c.self.inside.slots in
    let after = slot_after (slot_in (changed c.args.self.now.slots x c.args.change) x) answers in
    let left = c.changed_and_left.ensures ∙ ap (λ known. option_or (slot_after known answers) c.args.change) c.slot_once-known.ensures in
    let put = c.in_ok-change.ensures.ok ∙ ap (changed slots x) left ∙ sym (changed_twice slots x c.args.change after) in
    let world = ap (λ s. record { trxs = c.self.inside.trxs.items; slots = s; holds = c.self.inside.holds.items }) put
    ∙ ap (λ (w : WorldState). with_slot (with_slot w x c.args.change) x after) c.self.view_is in
    (world, c.in_ok-outs.ensures.outs ∙ ap (λ known. map out_of (all_departed known.impairment x answers)) c.slot_once-known.ensures)
