-- What single events and replies say of an attempt. Ours, of no standard.
use Rattle.std.specs.Prelude.{◌≡◌, ◌⊎◌, ◌&&◌, ℕ, Bool, Option, Some, None, is_some, is_none}
use Rattle.channel_fsm.specs.declared.ChanId.{ChanId}
use Rattle.radio_book.specs.declared.event.Kind.{Kind}
use Rattle.radio_book.specs.declared.event.Why.{Why}
use Rattle.radio_book.specs.declared.event.Event.{Event}
use Rattle.radio_book.specs.declared.event.Event.TheVariants as event
use Rattle.radio_book.specs.declared.event.Refusal.{Refusal}
use Rattle.radio_book.specs.declared.event.Reply.{Reply}
use Rattle.radio_book.specs.declared.event.Reply.TheVariants.{Done, Record, Owned, Refused}
use Rattle.radio_book.specs.declared.facts.About.{About}
use Rattle.radio_book.specs.declared.facts.About.TheVariants.{Call, Channel}
use Rattle.radio_book.specs.Facts.{event_facts}

-- the call that an event is asked for; a station's event is asked for none
abbrev pub call_in : About → Option ℕ
call_in (Call c) = Some c
call_in (Channel x) = None

abbrev pub call_of : Event → Option ℕ
call_of e = call_in (event_facts e).about

-- the channel that a station's event is about; an event that is asked for a call is about none
abbrev pub channel_in : About → Option ChanId
channel_in (Call c) = None
channel_in (Channel x) = Some x

abbrev pub channel_of : Event → Option ChanId
channel_of e = channel_in (event_facts e).about

-- the channel whose release it acknowledges
abbrev pub released_by : Event → Option ChanId
released_by e = (event_facts e).releases

-- the number of the reference that it reserves
abbrev pub number_of : Event → Option ℕ
number_of e = (event_facts e).reserves

-- why an event was refused; an accepted one wasn't
abbrev pub refusal_of : Reply → Option Refusal
refusal_of Done = None
refusal_of (Record shown state) = None
refusal_of (Owned c) = None
refusal_of (Refused why) = Some why

abbrev pub is_accepted : Reply → Bool
is_accepted reply = is_none (refusal_of reply)

-- an attempt of the call opens: a Take names its target, a Require has none
abbrev pub Opens : ℕ → Option ChanId → Event → Type 0
Opens c target e =
    ((k : Kind) × (x : ChanId) × (e ≡ event.Take c k x) × (target ≡ Some x)) ⊎ ((e ≡ event.Require c) × (target ≡ None))

-- the call's attempt is taken back, for whatever reason
abbrev pub Undoes : ℕ → Event → Type 0
Undoes c e = (why : Why) × (e ≡ event.Undo c why)

-- the call's attempt is over: it was taken back, the mobile came to its target, or left for another controller
abbrev pub EndsIt : ℕ → Event → Type 0
EndsIt c e = Undoes c e ⊎ (e ≡ event.Complete c) ⊎ (e ≡ event.Left c)

-- the event reserved a reference
abbrev pub is_reserved : Event → Reply → Bool
is_reserved e reply = is_some (number_of e) && is_accepted reply
