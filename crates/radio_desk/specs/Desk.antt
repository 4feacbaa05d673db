-- A desk: a book, the one that it opened with, and the history of events with their replies that leads from this to that.
-- Ours, of no standard.
use Rattle.std.specs.Prelude.{◌≡◌, IsTrue, ◌+◌, ◌<◌, ◌≤◌, ℕ, List, [], ◌∷◌, ◌++◌, length, Option, Some, None, slice_get, refl}
use Rattle.std.specs.Coded.{Coded, code_by, coded×, coded_ℕ, coded_list}
use Rattle.radio_book.specs.declared.event.Event.{Event}
use Rattle.radio_book.specs.declared.event.Reply.{Reply}
use Rattle.radio_book.specs.contracts.event.Event.{the_row as event_row}
use Rattle.radio_book.specs.contracts.event.Reply.{the_row as reply_row}
use Rattle.radio_book.specs.State.{State, state_code}
use Rattle.radio_book.specs.Table.{step, reply_to}
use Rattle.radio_book.specs.Run.{Leads}
use Rattle.radio_book.specs.Owed.{owed, calls_and_channels, is_owed}
use Rattle.radio_book.specs.Kinds.{is_accepted}
use Rattle.radio_book.specs.declared.ask.Ask.{Ask}
use Rattle.radio_book.specs.declared.ask.Ask.TheVariants as ask
use Rattle.radio_desk.specs.Receipts.{Receipt}

pub record DeskState : Type 0 where
  -- the book before the first entry, and after the last
  pub opening : State
  pub book : State
  -- all events that were judged, refused ones too, with their replies
  pub history : List (Event × Reply)
  -- how many more entries the history takes without memory
  pub room : ℕ

abbrev pub desk_code : Coded DeskState
desk_code =
    code_by (State × (State × (List (Event × Reply) × ℕ)))
    (coded× state_code (coded× state_code (coded× (coded_list (coded× event_row.coded reply_row.coded)) coded_ℕ)))
    (λ d. (d.opening, (d.book, (d.history, d.room))))
    (λ p. record { opening = p.0; book = p.1.0; history = p.1.1.0; room = p.1.1.1 })
    (λ _. refl)

-- What is true of every desk: its history leads from the opening book to the book, and has room for all that is owed there.
pub record IsInOrder (d : DeskState) : Type 0 where
  pub legal : Leads d.opening d.history d.book
  pub room : owed d.book ≤ d.room

-- The history lacks room for an entry of each call and channel that is in use, and for three more: that of an event, and
-- the two that are owed because of it.
abbrev pub LacksRoom : DeskState → Type 0
LacksRoom d = d.room < calls_and_channels d.book + 3

-- A history that can hold so many entries, and has so many, lacks room for those.
abbrev pub LacksCapacity : ℕ → ℕ → State → Type 0
LacksCapacity capacity entries b = capacity < entries + (calls_and_channels b + 3)

-- what is asked is an event that is owed, and the book accepts it
abbrev pub IsOwedAsk : State → Ask → Type 0
IsOwedAsk b (ask.Event e) = IsTrue (is_owed e) × IsTrue (is_accepted (reply_to b e))
IsOwedAsk b (ask.Take c kind cell rate) = ⊥
IsOwedAsk b (ask.Open c cell rate) = ⊥
IsOwedAsk b (ask.Reserve c) = ⊥

-- at the receipt's place stands its event with its reply
abbrev pub IsEntryOf : List (Event × Reply) → Receipt → Type 0
IsEntryOf history r = slice_get history r.place ≡ Some (r.event, r.reply)

-- the history holds the last receipt of a seat, if it has got one
abbrev pub HoldsLast : List (Event × Reply) → Option Receipt → Type 0
HoldsLast history None = Unit {0}
HoldsLast history (Some r) = IsEntryOf history r

-- the last receipt of a seat is of this place, and isn't the entry that the history has there
abbrev pub IsForeign : List (Event × Reply) → Option Receipt → ℕ → Type 0
IsForeign history None place = ⊥
IsForeign history (Some r) place = (r.place ≡ place) × (IsEntryOf history r → ⊥)

-- the book judged the receipt's event, and the entry of it joined the history
pub record IsJudged (d : DeskState) (r : Receipt) (d' : DeskState) : Type 0 where
  pub place : r.place ≡ length d.history
  pub reply : r.reply ≡ reply_to d.book r.event
  pub opening : d'.opening ≡ d.opening
  pub history : d'.history ≡ d.history ++ (r.event, r.reply) ∷ []
  pub book : d'.book ≡ step d.book r.event
  -- the entry took room for one and no more, and there is room left for all that is owed
  pub room : d.room ≤ d'.room + 1
  pub owed : owed d'.book ≤ d'.room

-- all of a desk is as it was; its history may have got more room
pub record IsSameDesk (d d' : DeskState) : Type 0 where
  pub opening : d'.opening ≡ d.opening
  pub history : d'.history ≡ d.history
  pub book : d'.book ≡ d.book
  pub room : d.room ≤ d'.room

-- The desk began anew: the book that it had is the opening one, and nothing was asked since. Of its history all memory is left
-- as room.
pub record IsAnew (d d' : DeskState) : Type 0 where
  pub opening : d'.opening ≡ d.book
  pub book : d'.book ≡ d.book
  pub history : d'.history ≡ []
  pub room : d'.room ≡ d.room + length d.history
