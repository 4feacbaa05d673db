-- What is owed in a book: the events that are still to come of what is open in it. Ours, of no standard.
use Rattle.std.specs.Prelude.{ℕ, ◌+◌, ◌≤◌, ◌||◌, Bool, cond, IsTrue, count_by, is_some}
use Rattle.std.specs.FinMap as map
use Rattle.radio_book.specs.declared.event.Event.{Event}
use Rattle.radio_book.specs.State.{State}
use Rattle.radio_book.specs.Table.{step, reply_to}
use Rattle.radio_book.specs.Sound.{IsSound}
use Rattle.radio_book.specs.Facts.{event_facts}
use Rattle.radio_book.specs.Kinds.{is_accepted}

-- how many attempts are open
abbrev pub open_attempts : State → ℕ
open_attempts b = count_by (λ r. is_some r.attempt) (map.values b.calls)

-- How many events are owed: one to take back each open attempt, and one to acknowledge the release of each channel in use.
unfoldable pub owed : State → ℕ
owed b = open_attempts b + map.len b.channels

-- how many calls and channels are in use together
abbrev pub calls_and_channels : State → ℕ
calls_and_channels b = map.len b.calls + map.len b.channels

-- No more is owed than calls and channels are in use.
abbrev pub IsOwedWithin : Type 0
IsOwedWithin = (b : State) → owed b ≤ calls_and_channels b

-- by how much an event may raise what is owed: by a channel that it takes, and by an attempt that it opens
abbrev pub most_raised : Event → ℕ
most_raised e = cond (is_some (event_facts e).gives) 1 0 + cond (is_some (event_facts e).opens) 1 0

-- Every event raises it by no more than that.
abbrev pub StepsRaise : Type 0
StepsRaise = (b : State) (e : Event) → IsSound b → owed (step b e) ≤ owed b + most_raised e

-- the event is one that is owed: an attempt is taken back, or the release of a channel is acknowledged
abbrev pub is_owed : Event → Bool
is_owed e = is_some (event_facts e).undoes || is_some (event_facts e).releases

-- Such an event, once accepted, lowers it.
abbrev pub OwedEventsLower : Type 0
OwedEventsLower = (b : State) (e : Event) → IsTrue (is_owed e) → IsTrue (is_accepted (reply_to b e)) → owed (step b e) + 1 ≤ owed b
