use Rattle.std.proofs.Common.{[], ◌∷◌, ◌++◌, ap, ◌∙◌}
use Rattle.std.proofs.lemmas.Result.{err_from_is_err_and}
use Rattle.radio_desk.specs.Receipts.{receipted}
use Rattle.ho_procedure.specs.Claims.{Claim}
use Rattle.ho_procedure.proofs.Seated.{is_for, says_chosen}
use Rattle.ho_procedure.proofs.Seats.{receipted_more, joined, seated_after, told_foreign}
use Rattle.ho_procedure.proofs.shared.SharedDeskView.ask.Goals as goal

pub invariant_of-self-in-Some : goal.invariant_of-self-in-Some
invariant_of-self-in-Some g c =
    let e = rw c.in-Some.is at c.in_ok-found.ensures in
    seated_after _ _ _ _ _ _ _ c.self.invariant e.held e.judged (c.push_reserved.ensures.items ∙ ap (λ kept. kept ++ c.in-Some.receipt ∷ []) c.reserve.ensures.items) e.seat

pub returns-in-Some-clause-receipt : goal.returns-in-Some-clause-receipt
returns-in-Some-clause-receipt g c =
    let e = rw c.in-Some.is at c.in_ok-found.ensures in
    rw (← c.self.view_is) (joined _ _ _ _ _ _ c.self.invariant e.held e.judged (c.push_reserved.ensures.items ∙ ap (λ kept. kept ++ c.in-Some.receipt ∷ []) c.reserve.ensures.items))

pub returns-in_err-found-clause-place : goal.returns-in_err-found-clause-place
returns-in_err-found-clause-place g c place is =
    let p = err_from_is_err_and c.from_residual-in_err-found.result c.from_residual-in_err-found.ensures.1 in
    rw (← c.self.view_is) (told_foreign _ _ _ _ _ _ _ c.self.invariant c.in_err-found.ensures.foreign p.1 p.2 is)

pub returns-in-Some-clause-ok : goal.returns-in-Some-clause-ok
returns-in-Some-clause-ok g c =
    let e = rw c.in-Some.is at c.in_ok-found.ensures in
    let says : Claim → Type 0 = λ claim. Unit {0} in
    let items = c.push_reserved.ensures.items ∙ ap (λ kept. kept ++ c.in-Some.receipt ∷ []) c.reserve.ensures.items in
    rw (← c.self.view_is) (is_for c.deref_mut.result.now.book c.args.ask c.in-Some.receipt.event e.event, says_chosen c.deref_mut.result.now.book says c.args.ask c.in-Some.receipt.event (λ chosen there. tt) e.event, ap receipted items ∙ receipted_more _ _)
