-- What is looked for in a list of steps, in the order of looking. Ours, of no standard.
use Rattle.std.specs.Prelude.{◌&&◌, ℕ, Bool, List, slice_get, Option}
use Rattle.std.specs.Option.{option_map}
use Rattle.channel_fsm.specs.declared.ChanId.{ChanId}
use Rattle.radio_book.specs.declared.event.Event.{Event}
use Rattle.radio_book.specs.declared.undone.StepAt.{StepAt}
use Rattle.radio_book.specs.Facts.{event_facts}
use Rattle.radio_book.specs.Kinds.{is_accepted}
use Rattle.radio_book.specs.Undone.{is_call}

-- the call and the target of the attempt that an event opens
abbrev pub opened_by : Event → Option (ℕ × Option ChanId)
opened_by e = (event_facts e).opens

-- the call whose attempt an event ends
abbrev pub ended_by : Event → Option ℕ
ended_by e = (event_facts e).ends

-- the call whose attempt an event takes back
abbrev pub undone_by : Event → Option ℕ
undone_by e = (event_facts e).undoes

abbrev pub ends : ℕ → StepAt → Bool
ends c s = is_call c (ended_by s.event) && is_accepted s.reply

abbrev pub first_place : List StepAt → Option ℕ
first_place steps = option_map (λ (s : StepAt). s.place) (slice_get steps 0)
