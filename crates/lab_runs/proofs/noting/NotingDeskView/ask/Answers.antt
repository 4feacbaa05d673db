use Rattle.std.proofs.Common.{◌≡◌, ◌++◌, ◌∷◌, [], length, Ok, ap, sym, ◌∙◌}
use Rattle.std.proofs.lemmas.List.Elements.{All-same}
use Rattle.radio_desk.specs.Desk.{DeskState}
use Rattle.ho_procedure.proofs.Saying.{answers_too, lacks_too}
use Rattle.lab_runs.specs.Notes.{IsTrueNote}
use Rattle.lab_runs.proofs.NoteFacts.{stay_true, still_true, true_after, one_more_true, still_says, said_too, none_at, entries_of, answered}
use Rattle.lab_runs.proofs.noting.NotingDeskView.ask.Goals as goal

pub invariant_of-self : goal.invariant_of-self
invariant_of-self g c =
    true_after c.self.inside.solo c.ask.new.self c.self.inside.notes.items c.ask.result entries_of c.ask.ensures.said
    (answered c.self.inside.solo c.ask.new.self c.args.ask c.ask.result c.ask.ensures.ok) c.ask.ensures.err c.self.invariant

pub returns-in_default-clause-ok : goal.returns-in_default-clause-ok
returns-in_default-clause-ok g c =
    rw (← c.self.view_is) (answers_too _ _ _ _ c.args.ask c.ask.result (said_too c.self.inside.solo.opening c.self.inside.solo.history) c.ask.ensures.ok)

pub returns-in_default-clause-memory : goal.returns-in_default-clause-memory
returns-in_default-clause-memory g c =
    rw (← c.self.view_is) (lacks_too _ _ c.args.ask c.ask.result (said_too c.self.inside.solo.opening c.self.inside.solo.history) c.ask.ensures.memory)

pub returns-in_default-clause-said : goal.returns-in_default-clause-said
returns-in_default-clause-said g c = rw (← c.self.view_is) (still_says c.self.inside.solo c.ask.new.self c.ask.ensures.said)

pub returns-in_err-reserve-clause-said : goal.returns-in_err-reserve-clause-said
returns-in_err-reserve-clause-said g c = rw (← c.self.view_is) (still_says c.self.inside.solo c.self.inside.solo (λ es claim holds. holds))

pub invariant_of-self-in_err-receipt : goal.invariant_of-self-in_err-receipt
invariant_of-self-in_err-receipt g c =
    All-same (IsTrueNote c.ask-2.new.self) _ _ c.reserve.ensures.items
    (still_true c.self.inside.solo c.ask-2.new.self _ c.ask-2.ensures.said c.in_err-receipt.ensures.err c.self.invariant)

pub returns-in_err-receipt-clause-said : goal.returns-in_err-receipt-clause-said
returns-in_err-receipt-clause-said g c = rw (← c.self.view_is) (still_says c.self.inside.solo c.ask-2.new.self c.ask-2.ensures.said)

pub invariant_of-self-in-Some-2 : goal.invariant_of-self-in-Some-2
invariant_of-self-in-Some-2 g c =
    let chosen = rw c.in-Some-2.is at c.in_ok-receipt.ensures.ok in
    All-same (IsTrueNote c.ask-2.new.self) _ _ c.reserve.ensures.items
    (stay_true c.self.inside.solo c.ask-2.new.self _ _ c.ask-2.ensures.said chosen.2 c.self.invariant)

pub invariant_of-self-in-None : goal.invariant_of-self-in-None
invariant_of-self-in-None g c =
    let none = rw c.in-None.is at c.in_ok-receipt.ensures.ok in
    let sought = sym c.sought_by.ensures ∙ c.in-Some.is in
    let place : c.len-place.result ≡ length c.ask-2.new.self.history = c.len-place.ensures.len ∙ ap (λ (d : DeskState). length d.history) c.desk.ensures.desk in
    All-same (IsTrueNote c.ask-2.new.self) _ _ (c.push_reserved.ensures.items ∙ ap (λ front. front ++ record { place = c.len-place.result; cell = c.in-Some.cell; rate = c.in-Some.rate } ∷ []) c.reserve.ensures.items)
    (one_more_true c.self.inside.solo c.ask-2.new.self c.self.inside.notes.items _ c.ask-2.ensures.said none.0 place
    (none_at c.self.inside.solo.opening c.self.inside.solo.history c.args.ask c.in-Some.cell c.in-Some.rate sought none.1) c.self.invariant)

pub returns-in-Some-2-clause-ok : goal.returns-in-Some-2-clause-ok
returns-in-Some-2-clause-ok g c =
    let said = answers_too _ _ _ _ c.args.ask (Ok c.in_ok-receipt.field-0) (said_too c.self.inside.solo.opening c.self.inside.solo.history) c.in_ok-receipt.ensures.ok in
    rw (← c.self.view_is) (rw c.in-Some-2.is at said)

pub returns-in-Some-2-clause-said : goal.returns-in-Some-2-clause-said
returns-in-Some-2-clause-said g c = rw (← c.self.view_is) (still_says c.self.inside.solo c.ask-2.new.self c.ask-2.ensures.said)

pub returns-in-None-clause-ok : goal.returns-in-None-clause-ok
returns-in-None-clause-ok g c =
    let said = answers_too _ _ _ _ c.args.ask (Ok c.in_ok-receipt.field-0) (said_too c.self.inside.solo.opening c.self.inside.solo.history) c.in_ok-receipt.ensures.ok in
    rw (← c.self.view_is) (rw c.in-None.is at said)

pub returns-in-None-clause-said : goal.returns-in-None-clause-said
returns-in-None-clause-said g c = rw (← c.self.view_is) (still_says c.self.inside.solo c.ask-2.new.self c.ask-2.ensures.said)
