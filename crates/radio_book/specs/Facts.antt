-- What an event says by itself, whatever the book has: a row for each. Ours, of no standard.
use Rattle.std.specs.Prelude.{ℕ, true, false, Some, None}
use Rattle.channel_fsm.specs.declared.ChanId.{ChanId}
use Rattle.radio_book.specs.declared.event.Kind.{Kind}
use Rattle.radio_book.specs.declared.event.Kind.TheVariants as kind
use Rattle.radio_book.specs.declared.event.Event.{Event}
use Rattle.radio_book.specs.declared.event.Event.TheVariants as event
use Rattle.radio_book.specs.declared.facts.About.{About}
use Rattle.radio_book.specs.declared.facts.About.TheVariants.{Call, Channel}
use Rattle.radio_book.specs.declared.facts.Milestone.TheVariants.{Opened, Began, Commanded, Completed, Undone}
use Rattle.radio_book.specs.declared.facts.Growth.{Growth}
use Rattle.radio_book.specs.declared.facts.Growth.TheVariants.{OfCalls, InPlace}
use Rattle.radio_book.specs.declared.facts.EventFacts.{EventFacts}

-- what is said of an event of which nothing is said but whom it is about
abbrev pub facts_about : About → EventFacts
facts_about about = record { about = about; gives = None; opens = None; reserves = None; ends = None; undoes = None; releases = None; drops = None; milestone = None; grows = None; is_question = false }

-- an event that is asked for a call
abbrev pub by_call : ℕ → EventFacts
by_call c = facts_about (Call c)

-- an event about a channel, which is a station's or is asked for its call
abbrev pub by_station : ChanId → EventFacts
by_station x = facts_about (Channel x)

-- what grows where an attempt takes a channel: a call that comes from another controller is new in the book
abbrev pub growth_of : Kind → Growth
growth_of kind.Internal = InPlace
growth_of kind.Incoming = OfCalls

-- the table of events
abbrev pub event_facts : Event → EventFacts
event_facts (event.Open c x) = record (by_call c) { gives = Some (c, x); drops = Some c; milestone = Some Opened; grows = Some OfCalls }
event_facts (event.Clear c) = record (by_call c) { drops = Some c }
event_facts (event.Look c) = record (by_call c) { is_question = true }
event_facts (event.Take c k x) = record (by_call c) { gives = Some (c, x); opens = Some (c, Some x); milestone = Some Began; grows = Some (growth_of k) }
event_facts (event.Reserve c n) = record (by_call c) { reserves = Some n; grows = Some InPlace }
event_facts (event.Activate c) = by_call c
event_facts (event.Command c) = record (by_call c) { milestone = Some Commanded }
event_facts (event.Complete c) = record (by_call c) { ends = Some c; drops = Some c; milestone = Some Completed }
event_facts (event.Undo c why) = record (by_call c) { ends = Some c; undoes = Some c; drops = Some c; milestone = Some Undone }
event_facts (event.Confirm x) = by_station x
event_facts (event.Refuse x) = by_station x
event_facts (event.Detect x) = by_station x
event_facts (event.Released x) = record (by_station x) { releases = Some x }
event_facts (event.Owner x) = record (by_station x) { is_question = true }
event_facts (event.Require c) = record (by_call c) { opens = Some (c, None); milestone = Some Began }
event_facts (event.Order c) = by_call c
event_facts (event.Left c) = record (by_call c) { ends = Some c; drops = Some c }
