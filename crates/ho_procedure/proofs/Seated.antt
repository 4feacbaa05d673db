-- A desk with its only caller.
use Rattle.std.proofs.Common.{◌≡◌, ◌≢◌, ◌↔◌, ℕ, List, [], ◌∷◌, ◌++◌, Option, Some, None, Result, Ok, Err, IfOk, IfErr, OnErr, IfSome, MatchOption, refl, sym, subst}
use Rattle.std.proofs.lemmas.Bool.{false≢true}
use Rattle.channel_fsm.specs.declared.ChanId.{ChanId}
use Rattle.timeslots.specs.declared.Rate.{Rate}
use Rattle.radio_book.specs.declared.event.Event.{Event}
use Rattle.radio_book.specs.State.{State}
use Rattle.radio_book.specs.Run.{Leads}
use Rattle.radio_book.specs.Choice.{IsFreeIn, IsFreeAt, NoneFreeAt}
use Rattle.radio_book.specs.declared.ask.Ask.{Ask}
use Rattle.radio_book.specs.declared.ask.Ask.TheVariants as ask
use Rattle.radio_book.specs.Asks.{IsAsked, NoneFor}
use Rattle.radio_desk.specs.Receipts.{Receipt}
use Rattle.radio_desk.specs.declared.desk.DeskFault.{DeskFault}
use Rattle.radio_desk.specs.declared.desk.DeskFault.TheVariants.{Foreign, NoMemory}
use Rattle.radio_desk.specs.Desk.{DeskState, IsJudged, IsSameDesk, IsOwedAsk}
use Rattle.radio_desk.specs.Desk as desk
use Rattle.ho_procedure.specs.Claims.{Entry, Claim, NoneFree, Chosen, IsThere, IsFor, SaysNone, SaysChosen, SaysRefused, IsTrueAfter, IsForeign, IsNoMemory}

-- a seat without a receipt isn't foreign
pub not_foreign : {X : Type 0} (history : List Entry) (last : Option Receipt) (result : Result X DeskFault)
    → last ≡ None → ((place : ℕ) → (result ≡ Err (Foreign place)) ↔ desk.IsForeign history last place) → IfErr result (λ f. (place : ℕ) → IsForeign f place → ⊥)
not_foreign history last (Ok x) new foreign = tt
not_foreign history last (Err NoMemory) new foreign = λ place is. is
not_foreign history last (Err (Foreign place)) new foreign = λ _ is. subst (λ s. desk.IsForeign history s place) new ((foreign place).0 refl)

-- A desk refuses memory only for an event that isn't owed, or is refused; to take a channel only where some is free; and for no
-- Reserve is room kept.
may_refuse : (opening : State) (history : List Entry) (book : State) (a : Ask) → Leads opening history book → (NoneFor book a → ⊥) → (IsOwedAsk book a → ⊥) → SaysRefused (IsTrueAfter opening history) a
may_refuse opening history book (ask.Event e) legal some unowed = (book, legal, λ is_one accepted. unowed (is_one, accepted))
may_refuse opening history book (ask.Take c kind cell rate) legal some unowed = (book, legal, some)
may_refuse opening history book (ask.Open c cell rate) legal some unowed = (book, legal, some)
may_refuse opening history book (ask.Reserve c) legal some unowed = λ n. (book, legal, λ is_one accepted. false≢true is_one)

pub may_lack : (opening : State) (history : List Entry) (book : State) (last : Option Receipt) (a : Ask) (result : Result (Option Receipt) DeskFault)
    → last ≡ None → Leads opening history book → (desk.HoldsLast history last → NoneFor book a → result ≡ Ok None) → (IsOwedAsk book a → result ≢ Err NoMemory)
    → IfErr result (λ f. IsNoMemory f → SaysRefused (IsTrueAfter opening history) a)
may_lack opening history book last a (Ok x) new legal looked owed = tt
may_lack opening history book last a (Err NoMemory) new legal looked owed =
    λ is. may_refuse opening history book a legal
    (λ none. let e : Err NoMemory ≡ Ok None = looked (subst (desk.HoldsLast history) (sym new) tt) none in (cc))
    (λ owes. owed owes refl)
may_lack opening history book last a (Err (Foreign place)) new legal looked owed = λ is. absurd is

-- what is true of a desk was true before, as long as it opens with the same book
pub still_true : (opening opening' : State) → opening' ≡ opening → (log : List Entry) → (claim : Claim) → IsTrueAfter opening' log claim → IsTrueAfter opening log claim
still_true opening opening' same log claim holds = subst (λ b. IsTrueAfter b log claim) same holds

pub ask_opens : (d d' : DeskState) (X Y : Type 0) (result : Result (Option Receipt) DeskFault)
    → IfOk result (λ answer. IfSome answer (λ r. IsJudged d r d')) → (result ≡ Ok None → IsSameDesk d d' × X) → OnErr result (IsSameDesk d d' × Y) → d'.opening ≡ d.opening
ask_opens d d' X Y (Ok (Some r)) judged none same = judged.opening
ask_opens d d' X Y (Ok None) judged none same = (none refl).0.opening
ask_opens d d' X Y (Err f) judged none same = same.0.opening

-- what answers an ask is for it, and there
pub is_for : (b : State) (a : Ask) (e : Event) → IsAsked b a e → IsFor a e
is_for b (ask.Event named) e asked = asked
is_for b (ask.Take c kind cell rate) e asked = (asked.0, asked.1.free.in_cell, asked.1.rate, asked.2)
is_for b (ask.Open c cell rate) e asked = (asked.0, asked.1.free.in_cell, asked.1.rate, asked.2)
is_for b (ask.Reserve c) e asked = (asked.0, asked.2)

free_there : (b : State) (cell : ℕ) (rate : Rate) (x : ChanId) → IsFreeAt b cell rate x → IsFreeIn b x.cell x
free_there b cell rate x free = subst (λ k. IsFreeIn b k x) (sym free.free.in_cell) free.free

pub says_chosen : (b : State) (says : Claim → Type 0) (a : Ask) (e : Event) → ((chosen : Event) → IsThere b chosen → says (Chosen chosen)) → IsAsked b a e → SaysChosen says a e
says_chosen b says (ask.Event named) e say asked = tt
says_chosen b says (ask.Take c kind cell rate) e say asked = say e (subst (λ e. IsThere b e) (sym asked.2) (free_there b cell rate asked.0 asked.1))
says_chosen b says (ask.Open c cell rate) e say asked = say e (subst (λ e. IsThere b e) (sym asked.2) (free_there b cell rate asked.0 asked.1))
says_chosen b says (ask.Reserve c) e say asked = say e (subst (λ e. IsThere b e) (sym asked.2) asked.1)

pub says_none : (b : State) (says : Claim → Type 0) (a : Ask) → ((cell : ℕ) (rate : Rate) → NoneFreeAt b cell rate → says (NoneFree cell rate)) → NoneFor b a → SaysNone says a
says_none b says (ask.Event named) say none = none
says_none b says (ask.Take c kind cell rate) say none = say cell rate none
says_none b says (ask.Open c cell rate) say none = say cell rate none
says_none b says (ask.Reserve c) say none = none

pub ask_chooses : (d d' : DeskState) (a : Ask) (X : Type 0) (result : Result (Option Receipt) DeskFault)
    → Leads d.opening d.history d.book → (result ≡ Ok None → NoneFor d.book a) → (result ≡ Ok None → IsSameDesk d d' × X)
    → IfOk result (λ answer. IfSome answer (λ r. IsAsked d.book a r.event)) → IfOk result (λ answer. IfSome answer (λ r. IsJudged d r d'))
    → IfOk result (λ answer. MatchOption answer ((d'.history ≡ d.history) × SaysNone (IsTrueAfter d.opening d.history) a) (λ r. IsFor a r.event × SaysChosen (IsTrueAfter d.opening d.history) a r.event × (d'.history ≡ d.history ++ (r.event, r.reply) ∷ [])))
ask_chooses d d' a X (Err f) legal none same asked judged = tt
ask_chooses d d' a X (Ok None) legal none same asked judged = ((same refl).0.history, says_none d.book (IsTrueAfter d.opening d.history) a (λ cell rate is. (d.book, legal, is)) (none refl))
ask_chooses d d' a X (Ok (Some r)) legal none same asked judged = (is_for d.book a r.event asked, says_chosen d.book (IsTrueAfter d.opening d.history) a r.event (λ chosen there. (d.book, legal, there)) asked, judged.history)
