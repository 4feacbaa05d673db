use Rattle.std.proofs.Common.{◌≡◌, ℕ, List, map, Ok, sym, ◌∙◌, ap, subst}
use Rattle.std.specs.List.{enumerate_from, zip}
use Rattle.radio_book.specs.declared.event.Event.{Event}
use Rattle.radio_book.specs.declared.event.Reply.{Reply}
use Rattle.radio_book.specs.declared.undone.StepAt.{StepAt}
use Rattle.radio_book.specs.Run.{run_book, run_replies}
use Rattle.radio_book.specs.Undone.{Undone, IsUndoneAt, steps_from, places_of, events_of, others}
use Rattle.radio_book.specs.Found.{first_place}
use Rattle.radio_book.specs.Following.{IsShownAt}
use Rattle.radio_book.proofs.NoTrace.{same_without}
use Rattle.radio_book.proofs.FoundFacts.{steps_are}
use Rattle.radio_book.proofs.RemainderFacts.{shown_at, undone_at}
use Rattle.radio_book.proofs.rewind.rewind.Given.{Over}
use Rattle.radio_book.proofs.rewind.rewind.Goals as goal

-- the events with these replies
abbrev steps_with : List Event → List Reply → List StepAt
steps_with es replies = map (λ (p : ℕ × (Event × Reply)). record { place = p.0; event = p.1.0; reply = p.1.1 }) (enumerate_from 0 (zip es replies))

pub returns-in_default-clause-no_attempt : goal.returns-in_default-clause-no_attempt
returns-in_default-clause-no_attempt g c = λ fault opens.
    let same = c.deref-2.ensures.value ∙ c.in_ok-steps.ensures ∙ ap (steps_with c.args.events.now) (c.deref.ensures.value ∙ c.in_ok-whole.ensures.replies) ∙ steps_are 0 c.args.book.now c.args.events.now in
    c.in_ok-remainder.ensures.none (ap Ok c.in_default.is) opens.0
    (subst (λ ss. IsShownAt ss c.args.at opens.0) (sym same) (shown_at c.args.book.now c.sound.ensures c.args.events.now c.args.at opens.0 opens.1))

-- the steps of the events
steps : (g : Over) (c : goal.After-drop-steps-2 g) → c.deref-2.result.now ≡ steps_from 0 c.args.book.now c.args.events.now
steps g c =
    c.deref-2.ensures.value ∙ c.in_ok-steps.ensures ∙ ap (steps_with c.args.events.now) (c.deref.ensures.value ∙ c.in_ok-whole.ensures.replies) ∙ steps_are 0 c.args.book.now c.args.events.now

here : (g : Over) (c : goal.After-drop-steps-2 g) (u : Undone) → IsUndoneAt c.args.book.now c.args.events.now c.args.at u → IsShownAt c.deref-2.result.now c.args.at u
here g c u at = subst (λ ss. IsShownAt ss c.args.at u) (sym (steps g c)) (shown_at c.args.book.now c.sound.ensures c.args.events.now c.args.at u at)

pub returns-clause-attempt : goal.returns-clause-attempt
returns-clause-attempt g c =
    let found = rw c.in-Some.is at c.in_ok-remainder.ensures.attempt in
    undone_at c.args.book.now c.sound.ensures c.args.events.now c.args.at found.0 (subst (λ ss. IsShownAt ss c.args.at found.0) (steps g c) found.1)

-- what stays of the steps
kept : (g : Over) (c : goal.After-drop-steps-2 g) (u : Undone) → IsUndoneAt c.args.book.now c.args.events.now c.args.at u → c.in-Some.remainder.kept.items ≡ others u
kept g c u at = let kept = rw c.in-Some.is at c.in_ok-remainder.ensures.kept in kept u (here g c u at)

pub returns-clause-others : goal.returns-clause-others
returns-clause-others g c = λ u at. c.in_ok-others.ensures ∙ ap places_of (c.deref-4.ensures.value ∙ kept g c u at)

-- the events that stay
stay : (g : Over) (c : goal.After-drop-steps-2 g) (u : Undone) → IsUndoneAt c.args.book.now c.args.events.now c.args.at u → c.deref-5.result.now ≡ events_of (others u)
stay g c u at = c.deref-5.ensures.value ∙ c.in_ok-kept.ensures ∙ ap events_of (c.deref-3.ensures.value ∙ kept g c u at)

pub returns-clause-without : goal.returns-clause-without
returns-clause-without g c = λ u at. c.in_ok-without.ensures.book ∙ ap (run_book c.args.book.now) (stay g c u at)

pub returns-clause-without_replies : goal.returns-clause-without_replies
returns-clause-without_replies g c = λ u at. c.in_ok-without.ensures.replies ∙ ap (run_replies c.args.book.now) (stay g c u at)

pub returns-clause-settled : goal.returns-clause-settled
returns-clause-settled g c = λ u at. let settled = rw c.in-Some.is at c.in_ok-remainder.ensures.settled in settled u (here g c u at)

pub returns-clause-held : goal.returns-clause-held
returns-clause-held g c = λ u at.
    let held = rw c.in-Some.is at c.in_ok-remainder.ensures.held in
    c.first_place.ensures ∙ ap first_place (c.deref-6.ensures.value ∙ held u (here g c u at))

pub returns-clause-no_trace : goal.returns-clause-no_trace
returns-clause-no_trace g c = λ settled held.
    let found = returns-clause-attempt g c in
    same_without c.args.book.now c.args.events.now found.0 _ _ _ _ _ c.sound.ensures found.1.0
    c.in_ok-whole.ensures.book c.in_ok-whole.ensures.replies
    (returns-clause-others g c found.0 found.1) (returns-clause-without g c found.0 found.1) (returns-clause-without_replies g c found.0 found.1)
    (sym (returns-clause-settled g c found.0 found.1) ∙ settled) (sym (returns-clause-held g c found.0 found.1) ∙ held)
