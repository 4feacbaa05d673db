use Rattle.std.proofs.Common.{◌≡◌, sym, ap, ◌∙◌, map}
use Rattle.bts_model.specs.World.{WorldState, slot_in, with_slot}
use Rattle.bts_model.specs.Answers.{out_of}
use Rattle.bts_model.specs.Holds.{kept_of, others}
use Rattle.bts_model.specs.Departures.{slot_after, all_departed}
use Rattle.bts_model.proofs.DepartureFacts.{all_unheld}
use Rattle.bts_model.proofs.HoldFacts.{ended}
use Rattle.bts_model.proofs.world.World.let_out.Goals as goal

-- what was kept leaves as it would once the holds have ended
pub returns-clause-gives : goal.returns-clause-gives
returns-clause-gives g c =
    let w = c.args.self.now in
    let x = c.args.place in
    let slot = slot_in w.slots x in
    let kept = kept_of x w.holds in
    let without : WorldState = record w { holds = others x w.holds } in
    let answers : c.as_slice-2.result.now ≡ kept = c.as_slice-2.ensures.value ∙ c.in_ok-kept.ensures.kept
    ∙ ap (kept_of x) (c.as_slice.ensures.value ∙ ap (λ v. v.holds) c.self.view_is) in
    let gives = c.in_ok-outs.ensures.gives in
    let leave = all_unheld without x kept (ended x w.holds kept) in
    let world = ap (λ holds. record { trxs = c.self-2.inside.trxs.items; slots = c.self-2.inside.slots; holds = holds }) c.end_holds.ensures
    ∙ ap (λ (v : WorldState). record v { holds = others x v.holds }) (c.self-2.view_is ∙ gives.0)
    ∙ ap (λ a. with_slot without x (slot_after slot a)) answers in (
      world ∙ sym (ap (λ o. o.world) leave),
      gives.1 ∙ ap (λ a. map out_of (all_departed slot.impairment x a)) answers ∙ sym (ap (λ o. map out_of o.sent) leave),
    )
