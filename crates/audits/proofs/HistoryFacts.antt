-- Facts of what remains of a desk's history without all its settled attempts.
use Rattle.std.proofs.Common.{◌≡◌, ◌∙◌, Bool, true, false, List, Result, Ok, Err, IfOk, refl, sym, subst}
use Rattle.radio_book.specs.declared.event.Event.{Event}
use Rattle.radio_book.specs.declared.undone.StepAt.{StepAt}
use Rattle.radio_book.specs.State.{State}
use Rattle.radio_book.specs.Run.{Leads}
use Rattle.radio_book.specs.Together.{remaining}
use Rattle.radio_desk.specs.declared.audit.Audit.{Audit}
use Rattle.radio_desk.specs.Desk.{DeskState}
use Rattle.radio_desk.specs.Audit.{events_in, steps_in, LeadsAlike, IsAuditOf}
use Rattle.audits.specs.Histories.{OfTheRemaining, OfTheHistory, LeadsApart}

-- what an audit that is the same says
pub remains_alike : (d : DeskState) (audit : Audit) → IsAuditOf d audit → audit.same ≡ true → OfTheRemaining LeadsAlike d.opening d.history d.book
remains_alike d audit of is = let found = of.attempts in (found.0, found.1, (of.same found.0 found.1).0 is)

-- and one that isn't
pub remains_apart : (d : DeskState) (audit : Audit) → IsAuditOf d audit → audit.same ≡ false → OfTheRemaining LeadsApart d.opening d.history d.book
remains_apart d audit of is =
    let found = of.attempts in
    let apart : LeadsApart d.opening (remaining found.0 (steps_in d.history)) d.book = λ alike.
    let bad : true ≡ false = sym ((of.same found.0 found.1).1 alike) ∙ is in
    cc in
    (found.0, found.1, apart)

-- a history that is legal remains alike, where the audit may have failed
pub same_in : {E : Type 0} (d : DeskState) (r : Result Audit E) → Leads d.opening d.history d.book → IfOk r (IsAuditOf d)
    → IfOk r (λ (audit : Audit). audit.same ≡ true → OfTheHistory LeadsAlike d.opening (events_in d.history))
same_in d (Ok audit) legal of = λ is. (d.history, d.book, refl, legal, remains_alike d audit of is)
same_in d (Err e) legal of = tt

pub differs_in : {E : Type 0} (d : DeskState) (r : Result Audit E) → Leads d.opening d.history d.book → IfOk r (IsAuditOf d)
    → IfOk r (λ (audit : Audit). audit.same ≡ false → OfTheHistory LeadsApart d.opening (events_in d.history))
differs_in d (Ok audit) legal of = λ is. (d.history, d.book, refl, legal, remains_apart d audit of is)
differs_in d (Err e) legal of = tt

-- what holds of a book holds under another name of it, and of its events
pub of_book : (P : State → List StepAt → State → Type 0) (b b' : State) (es : List Event) (T : Type 0) → b ≡ b' → (T → OfTheHistory P b es) → T → OfTheHistory P b' es
of_book P b b' es T same h t = subst (λ x. OfTheHistory P x es) same (h t)

pub of_events : (P : State → List StepAt → State → Type 0) (b : State) (es es' : List Event) (T : Type 0) → es ≡ es' → (T → OfTheHistory P b es) → T → OfTheHistory P b es'
of_events P b es es' T same h t = subst (λ xs. OfTheHistory P b xs) same (h t)

-- and where the audit may have failed
pub asked_so : {E : Type 0} (P : State → List StepAt → State → Type 0) (is : Bool) (r : Result Audit E) (b b' : State) (es es' : List Event) → b ≡ b' → es ≡ es'
    → IfOk r (λ (audit : Audit). audit.same ≡ is → OfTheHistory P b es) → IfOk r (λ (audit : Audit). audit.same ≡ is → OfTheHistory P b' es')
asked_so P is (Ok audit) b b' es es' book events h = of_events P b' es es' (audit.same ≡ is) events (of_book P b b' es (audit.same ≡ is) book h)
asked_so P is (Err e) b b' es es' book events h = tt
