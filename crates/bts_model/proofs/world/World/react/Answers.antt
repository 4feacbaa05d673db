use Rattle.std.proofs.Common.{◌≡◌, true, [], ◌∷◌, None, sym, ap, subst, ◌∙◌, rules, IfOk}
use Rattle.bts_model.specs.World.{has_channel, with_slot}
use Rattle.bts_model.specs.Holds.{hold_of}
use Rattle.bts_model.specs.Steps.{Gives}
use Rattle.bts_model.proofs.DepartureFacts.{all_unheld}
use Rattle.bts_model.proofs.world.World.react.Goals as goal

-- the one answer leaves
pub returns-in-None-clause-gives : goal.returns-in-None-clause-gives
returns-in-None-clause-gives g c =
    let w = c.args.self.now in
    let x = c.args.place in
    let answer = c.args.reaction.answer in
    let has : has_channel w x ≡ true = search rules in
    let holds = c.as_slice.ensures.value ∙ ap (λ v. v.holds) c.self.view_is in
    let none : hold_of w.holds x answer ≡ None = ap (λ hs. hold_of hs x answer) (sym holds) ∙ sym c.hold_of.ensures.place ∙ c.in-None.is in
    let leave = all_unheld (with_slot w x c.args.reaction.slot) x (answer ∷ []) (none, tt) in
    let gives = subst (λ o. IfOk c.leave.result (λ outs. Gives o c.leave.new.self outs.items)) (sym leave) c.leave.ensures.gives in
    rw has gives
