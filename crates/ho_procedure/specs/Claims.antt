-- What a view says of the book that it asks: what it may choose there, a channel of a cell that is free at a rate
-- (TS 48.058 clause 4) or a free Handover Reference (TS 44.018 clause 10.5.2.15), which book it began with, that the desk
-- doesn't know the view's last receipt, and for which events, and where a channel is taken, it may be refused memory.
use Rattle.std.specs.Prelude.{◌≡◌, ℕ, IsTrue, List}
use Rattle.timeslots.specs.declared.Rate.{Rate}
use Rattle.timeslots.specs.Parts.{rate_of}
use Rattle.channel_fsm.specs.declared.ChanId.{ChanId}
use Rattle.radio_book.specs.declared.ask.Ask.{Ask}
use Rattle.radio_book.specs.declared.ask.Ask.TheVariants as ask
use Rattle.radio_book.specs.declared.event.Event.{Event}
use Rattle.radio_book.specs.declared.event.Event.TheVariants.{Open, Clear, Look, Take, Reserve, Activate, Command, Complete, Undo, Confirm, Refuse, Detect, Released, Owner, Require, Order, Left}
use Rattle.radio_book.specs.declared.event.Reply.{Reply}
use Rattle.radio_book.specs.State.{State, record_of}
use Rattle.radio_book.specs.Table.{reply_to}
use Rattle.radio_book.specs.Kinds.{is_accepted}
use Rattle.radio_book.specs.Owed.{is_owed}
use Rattle.radio_book.specs.Run.{Leads}
use Rattle.radio_book.specs.Choice.{IsFreeIn, MayReserve, taken_channel}
use Rattle.radio_book.specs.Choice as free
use Rattle.radio_desk.specs.declared.desk.DeskFault.{DeskFault}
use Rattle.radio_desk.specs.declared.desk.DeskFault.TheVariants.{Foreign, NoMemory}

-- an event that was asked, and its reply
abbrev pub Entry : Type 0
Entry = Event × Reply

-- No channel of a cell is free at this rate; this Take, Open or Reserve chooses what is; the book began as this one; the desk
-- doesn't know the view's last receipt, which is of this place (counted from 0); memory may be refused where this event is
-- asked; or it may where a channel of this cell is taken at this rate.
pub data Claim : Type 0 where
  NoneFree : ℕ → Rate → Claim
  Chosen : Event → Claim
  Opening : State → Claim
  UnknownReceipt : ℕ → Claim
  MayBeRefused : Event → Claim
  TakeMayBeRefused : ℕ → Rate → Claim

-- the book has what is chosen: the channel is free, or the number is in the cell of the taken channel
abbrev pub IsThere : State → Event → Type 0
IsThere b (Take c k x) = IsFreeIn b x.cell x
IsThere b (Open c x) = IsFreeIn b x.cell x
IsThere b (Reserve c n) = MayReserve b (taken_channel (record_of b c)) n
IsThere b (Clear c) = ⊥
IsThere b (Look c) = ⊥
IsThere b (Activate c) = ⊥
IsThere b (Command c) = ⊥
IsThere b (Complete c) = ⊥
IsThere b (Undo c why) = ⊥
IsThere b (Confirm x) = ⊥
IsThere b (Refuse x) = ⊥
IsThere b (Detect x) = ⊥
IsThere b (Released x) = ⊥
IsThere b (Owner x) = ⊥
IsThere b (Require c) = ⊥
IsThere b (Order c) = ⊥
IsThere b (Left c) = ⊥

-- No room is kept for an entry of this event: the event is none that is owed, or it is refused.
abbrev pub MayLackRoom : State → Event → Type 0
MayLackRoom b e = IsTrue (is_owed e) → IsTrue (is_accepted (reply_to b e)) → ⊥

-- A claim is true of the book that the entries lead to, or of the opening one, from which they lead. Where nobody else asks
-- the desk, it knows each receipt. No memory is needed to find that no channel is free.
abbrev pub IsTrueAfter : State → List Entry → Claim → Type 0
IsTrueAfter opening log (NoneFree cell rate) = (b : State) × Leads opening log b × free.NoneFreeAt b cell rate
IsTrueAfter opening log (Chosen e) = (b : State) × Leads opening log b × IsThere b e
IsTrueAfter opening log (Opening book) = book ≡ opening
IsTrueAfter opening log (UnknownReceipt place) = ⊥
IsTrueAfter opening log (MayBeRefused e) = (b : State) × Leads opening log b × MayLackRoom b e
IsTrueAfter opening log (TakeMayBeRefused cell rate) = (b : State) × Leads opening log b × (free.NoneFreeAt b cell rate → ⊥)

-- the event answers what is asked, whatever is free
abbrev pub IsFor : Ask → Event → Type 0
IsFor (ask.Event e) chosen = chosen ≡ e
IsFor (ask.Take c kind cell rate) chosen = (x : ChanId) × (x.cell ≡ cell) × (rate_of x.sub ≡ rate) × (chosen ≡ Take c kind x)
IsFor (ask.Open c cell rate) chosen = (x : ChanId) × (x.cell ≡ cell) × (rate_of x.sub ≡ rate) × (chosen ≡ Open c x)
IsFor (ask.Reserve c) chosen = (n : ℕ) × (chosen ≡ Reserve c n)

-- What a view claims where it is asked this: that what is chosen is there,
abbrev pub SaysChosen : (Claim → Type 0) → Ask → Event → Type 0
SaysChosen says (ask.Event e) chosen = Unit {0}
SaysChosen says (ask.Take c kind cell rate) chosen = says (Chosen chosen)
SaysChosen says (ask.Open c cell rate) chosen = says (Chosen chosen)
SaysChosen says (ask.Reserve c) chosen = says (Chosen chosen)

-- that no channel is free, where it answers no event,
abbrev pub SaysNone : (Claim → Type 0) → Ask → Type 0
SaysNone says (ask.Event e) = ⊥
SaysNone says (ask.Take c kind cell rate) = says (NoneFree cell rate)
SaysNone says (ask.Open c cell rate) = says (NoneFree cell rate)
SaysNone says (ask.Reserve c) = ⊥

-- and that memory may be refused, where it is.
abbrev pub SaysRefused : (Claim → Type 0) → Ask → Type 0
SaysRefused says (ask.Event e) = says (MayBeRefused e)
SaysRefused says (ask.Take c kind cell rate) = says (TakeMayBeRefused cell rate)
SaysRefused says (ask.Open c cell rate) = says (TakeMayBeRefused cell rate)
SaysRefused says (ask.Reserve c) = (n : ℕ) → says (MayBeRefused (Reserve c n))

-- the fault is refused memory
abbrev pub IsNoMemory : DeskFault → Type 0
IsNoMemory (Foreign named) = ⊥
IsNoMemory NoMemory = Unit {0}

-- the fault is that the desk doesn't know the view's last receipt, which is of this place
abbrev pub IsForeign : DeskFault → ℕ → Type 0
IsForeign (Foreign named) place = named ≡ place
IsForeign NoMemory place = ⊥
