-- What a book is asked, and which events answer that: one that is named, or one on a channel (TS 48.058 clause 4) or a Handover
-- Reference (TS 44.018 clause 10.5.2.15) that is free there.
use Rattle.std.specs.Prelude.{◌≡◌, ℕ, false}
use Rattle.radio_book.specs.declared.event.Kind.TheVariants.{Incoming}
use Rattle.radio_book.specs.declared.event.Event.{Event}
use Rattle.radio_book.specs.declared.ask.Ask.{Ask}
use Rattle.radio_book.specs.declared.ask.Ask.TheVariants as ask
use Rattle.radio_book.specs.State.{State}
use Rattle.radio_book.specs.Table.{MayBeRefused}
use Rattle.radio_book.specs.Choice.{NoneFreeAt, TakesFree, OpensFree, ReservesFree}

-- the event is what is asked: the one that is named, or one on what is free in the book
abbrev pub IsAsked : State → Ask → Event → Type 0
IsAsked b (ask.Event named) e = e ≡ named
IsAsked b (ask.Take c kind cell rate) e = TakesFree b c kind cell rate e
IsAsked b (ask.Open c cell rate) e = OpensFree b c cell rate e
IsAsked b (ask.Reserve c) e = ReservesFree b c e

-- no channel is free for what is asked
abbrev pub NoneFor : State → Ask → Type 0
NoneFor b (ask.Event named) = ⊥
NoneFor b (ask.Take c kind cell rate) = NoneFreeAt b cell rate
NoneFor b (ask.Open c cell rate) = NoneFreeAt b cell rate
NoneFor b (ask.Reserve c) = ⊥

-- memory may be refused for what is asked, in a book that changes in place without any
abbrev pub MayLackMemory : Ask → Type 0
MayLackMemory (ask.Event named) = MayBeRefused false named
MayLackMemory (ask.Take c kind cell rate) = kind ≡ Incoming
MayLackMemory (ask.Open c cell rate) = Unit {0}
MayLackMemory (ask.Reserve c) = ⊥
