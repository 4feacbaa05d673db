use Rattle.std.proofs.Common.{◌≡◌, sym, ap, ◌∙◌, map}
use Rattle.bts_model.specs.declared.answer.Answer.TheVariants.{Detection, Complete}
use Rattle.bts_model.specs.World.{WorldState}
use Rattle.bts_model.specs.Answers.{out_of}
use Rattle.bts_model.specs.Holds.{hold_of}
use Rattle.bts_model.specs.Departures.{kept_in}
use Rattle.bts_model.proofs.ArrivalFacts.{arrived}
use Rattle.bts_model.proofs.world.World.arrive.Goals as goal

-- what no hold keeps leaves at once, as it would one after the other
pub returns-clause-gives : goal.returns-clause-gives
returns-clause-gives g c =
    let w = c.args.self.now in
    let x = c.args.target in
    let detection = c.hold_of-detection.result in
    let complete = c.hold_of-complete.result in
    let of_detection : hold_of w.holds x Detection ≡ detection =
    ap (λ hs. hold_of hs x Detection) (sym (c.as_slice.ensures.value ∙ ap (λ v. v.holds) c.self.view_is)) ∙ sym c.hold_of-detection.ensures.place in
    let of_complete : hold_of w.holds x Complete ≡ complete =
    ap (λ hs. hold_of hs x Complete) (sym (c.as_slice-2.ensures.value ∙ ap (λ v. v.holds) c.self.view_is)) ∙ sym c.hold_of-complete.ensures.place in
    let leave = arrived w x detection complete of_detection of_complete in
    let gives = c.in_ok-outs.ensures.gives in
    let kept = c.keep_in-2.ensures.kept ∙ ap (λ hs. kept_in hs complete Complete) c.keep_in.ensures.kept in
    let world = ap (λ hs. record { trxs = c.self-2.inside.trxs.items; slots = c.self-2.inside.slots; holds = hs }) kept
    ∙ ap (λ (v : WorldState). record v { holds = kept_in (kept_in v.holds detection Detection) complete Complete }) (c.self-2.view_is ∙ gives.0) in
    (world ∙ sym (ap (λ o. o.world) leave), gives.1 ∙ sym (ap (λ o. map out_of o.sent) leave))
