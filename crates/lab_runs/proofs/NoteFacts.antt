-- Facts of notes of where no channel was free.
use Rattle.std.proofs.Common.{◌≡◌, ◌++◌, ◌∷◌, ℕ, List, [], Option, Some, None, Result, Ok, Err, OnErr, IfOk, MatchOption, length, rules, refl, sym, ap, subst, ◌∙◌, append_assoc, append-nil}
use Rattle.std.specs.List.{All}
use Rattle.std.proofs.lemmas.List.Elements.{All-weaker, All-push}
use Rattle.timeslots.specs.declared.Rate.{Rate}
use Rattle.radio_book.specs.declared.event.Event.{Event}
use Rattle.radio_book.specs.declared.ask.Ask.{Ask}
use Rattle.radio_book.specs.declared.ask.Ask.TheVariants as ask
use Rattle.radio_book.specs.State.{State}
use Rattle.radio_desk.specs.declared.desk.DeskFault.{DeskFault}
use Rattle.radio_desk.specs.Receipts.{Receipt}
use Rattle.radio_desk.specs.Desk.{DeskState}
use Rattle.ho_procedure.specs.Claims.{Entry, Claim, NoneFree, Chosen, Opening, UnknownReceipt, MayBeRefused, TakeMayBeRefused, IsFor, SaysNone, SaysChosen, IsTrueAfter}
use Rattle.lab_runs.specs.declared.noting.Note.{Note}
use Rattle.lab_runs.specs.Notes.{NotingState, IsTrueNote, sought_by}
use Rattle.lab_runs.specs.Turns.{IsSaidAfter, says}

-- what is true of the book that it opened with now was true before
pub opens_as_before : (d d' : DeskState) → ((es : List Entry) → (claim : Claim) → IsTrueAfter d'.opening es claim → IsTrueAfter d.opening es claim) → d'.opening ≡ d.opening
opens_as_before d d' said = said [] (Opening d'.opening) refl

pub view_opens_as_before : (v v' : NotingState) → ((es : List Entry) → (claim : Claim) → says v' es claim → says v es claim) → v'.desk.opening ≡ v.desk.opening
view_opens_as_before v v' said = said [] (Opening v'.desk.opening) refl

-- what a view said is as true as what its desk did
pub still_says : (d d' : DeskState) → ((es : List Entry) → (claim : Claim) → IsTrueAfter d'.opening es claim → IsTrueAfter d.opening es claim)
    → (es : List Entry) → (claim : Claim) → IsSaidAfter d'.opening es claim → IsSaidAfter d.opening es claim
still_says d d' said es (NoneFree cell rate) h = said es (NoneFree cell rate) h
still_says d d' said es (Chosen e) h = said es (Chosen e) h
still_says d d' said es (Opening book) h = said es (Opening book) h
still_says d d' said es (UnknownReceipt place) h = said es (UnknownReceipt place) h
still_says d d' said es (MayBeRefused e) h = said es (MayBeRefused e) h
still_says d d' said es (TakeMayBeRefused cell rate) h = tt

-- what is true of a view's book it says, too
pub said_too : (opening : State) (log : List Entry) (claim : Claim) → IsTrueAfter opening log claim → IsSaidAfter opening log claim
said_too opening log (NoneFree cell rate) h = h
said_too opening log (Chosen e) h = h
said_too opening log (Opening book) h = h
said_too opening log (UnknownReceipt place) h = h
said_too opening log (MayBeRefused e) h = h
said_too opening log (TakeMayBeRefused cell rate) h = tt

-- the cell and the rate of a pair, if there is one
abbrev cell_or : ℕ → Option (ℕ × Rate) → ℕ
cell_or other None = other
cell_or other (Some pair) = pair.0

abbrev rate_or : Rate → Option (ℕ × Rate) → Rate
rate_or other None = other
rate_or other (Some pair) = pair.1

-- where none is free for a channel that is asked for, none is at its rate in its cell
pub none_at : (opening : State) (log : List Entry) (a : Ask) (cell : ℕ) (rate : Rate) → sought_by a ≡ Some (cell, rate) → SaysNone (IsTrueAfter opening log) a → IsTrueAfter opening log (NoneFree cell rate)
none_at opening log (ask.Event named) cell rate is none = absurd none
none_at opening log (ask.Take c kind k r) cell rate is none =
    let same_cell : k ≡ cell = ap (cell_or k) is in
    let same_rate : r ≡ rate = ap (rate_or r) is in
    rw (← same_cell, ← same_rate) none
none_at opening log (ask.Open c k r) cell rate is none =
    let same_cell : k ≡ cell = ap (cell_or k) is in
    let same_rate : r ≡ rate = ap (rate_or r) is in
    rw (← same_cell, ← same_rate) none
none_at opening log (ask.Reserve c) cell rate is none = absurd none

-- what an answer adds to a history
abbrev pub entries_of : Option Receipt → List Entry
entries_of None = []
entries_of (Some r) = (r.event, r.reply) ∷ []

pub answered : (d d' : DeskState) (a : Ask) (result : Result (Option Receipt) DeskFault)
    → IfOk result (λ answer. MatchOption answer ((d'.history ≡ d.history) × SaysNone (IsTrueAfter d.opening d.history) a) (λ r. IsFor a r.event × SaysChosen (IsTrueAfter d.opening d.history) a r.event × (d'.history ≡ d.history ++ (r.event, r.reply) ∷ [])))
    → (answer : Option Receipt) → result ≡ Ok answer → d'.history ≡ d.history ++ entries_of answer
answered d d' a (Err f) ok answer is = absurd (search (rules, is))
answered d d' a (Ok None) ok answer is =
    let e : Ok None ≡ Ok answer = is in
    let none : None ≡ answer = cc in
    rw (← none) (ok.0 ∙ sym (append-nil d.history))
answered d d' a (Ok (Some r)) ok answer is =
    let e : Ok (Some r) ≡ Ok answer = is in
    let some : Some r ≡ answer = cc in
    rw (← some) ok.2

stays_true : (d d' : DeskState) (more : List Entry) (n : Note) → d'.opening ≡ d.opening → d'.history ≡ d.history ++ more → IsTrueNote d n → IsTrueNote d' n
stays_true d d' more n opening grown h = record {
  before = h.before;
  behind = h.behind ++ more;
  history = grown ∙ (ap (λ front. front ++ more) h.history ∙ append_assoc h.before h.behind more);
  place = h.place;
  none_free = subst (λ book. IsTrueAfter book h.before (NoneFree n.cell n.rate)) (sym opening) h.none_free;
}

-- notes stay true where the history goes on
pub stay_true : (d d' : DeskState) (more : List Entry) (notes : List Note) → ((es : List Entry) → (claim : Claim) → IsTrueAfter d'.opening es claim → IsTrueAfter d.opening es claim)
    → d'.history ≡ d.history ++ more → All (IsTrueNote d) notes → All (IsTrueNote d') notes
stay_true d d' more notes said grown = All-weaker (IsTrueNote d) (IsTrueNote d') (λ n. stays_true d d' more n (opens_as_before d d' said) grown) notes

-- and where it is as it was
pub still_true : (d d' : DeskState) (notes : List Note) → ((es : List Entry) → (claim : Claim) → IsTrueAfter d'.opening es claim → IsTrueAfter d.opening es claim)
    → d'.history ≡ d.history → All (IsTrueNote d) notes → All (IsTrueNote d') notes
still_true d d' notes said same = stay_true d d' [] notes said (same ∙ sym (append-nil d.history))

-- and where a call may have failed, and left it so
pub true_after : {X E : Type 0} (d d' : DeskState) (notes : List Note) (r : Result X E) (entries : X → List Entry) → ((es : List Entry) → (claim : Claim) → IsTrueAfter d'.opening es claim → IsTrueAfter d.opening es claim)
    → ((x : X) → r ≡ Ok x → d'.history ≡ d.history ++ entries x) → OnErr r (d'.history ≡ d.history) → All (IsTrueNote d) notes → All (IsTrueNote d') notes
true_after d d' notes (Ok x) entries said grown same = stay_true d d' (entries x) notes said (grown x refl)
true_after d d' notes (Err e) entries said grown same = still_true d d' notes said same

-- one more is true where no channel of its cell is free
pub one_more_true : (d d' : DeskState) (notes : List Note) (n : Note) → ((es : List Entry) → (claim : Claim) → IsTrueAfter d'.opening es claim → IsTrueAfter d.opening es claim)
    → d'.history ≡ d.history → n.place ≡ length d'.history → IsTrueAfter d.opening d.history (NoneFree n.cell n.rate) → All (IsTrueNote d) notes → All (IsTrueNote d') (notes ++ n ∷ [])
one_more_true d d' notes n said same place none_free all =
    let here : IsTrueNote d n = record {
      before = d.history;
      behind = [];
      history = sym (append-nil d.history);
      place = ap length (sym same) ∙ sym place;
      none_free = none_free;
    } in
    still_true d d' (notes ++ n ∷ []) said same (All-push (IsTrueNote d) notes n all here)
