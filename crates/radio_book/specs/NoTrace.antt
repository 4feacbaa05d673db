-- The theorem of undone attempts. Ours, of no standard. Its words are those of Undone: the parts of a list of events around an
-- attempt that was undone, the others, held refusals, and when it is settled.
use Rattle.std.specs.Prelude.{◌≡◌, IsTrue, List, [], map, slice_get, Some}
use Rattle.radio_book.specs.declared.event.Event.{Event}
use Rattle.radio_book.specs.State.{State}
use Rattle.radio_book.specs.Sound.{IsSound}
use Rattle.radio_book.specs.Run.{run_book, run_replies}
use Rattle.radio_book.specs.Undone.{Undone, IsUndoneAttempt, others, events_of, places_of, is_settled, held_refusals}

-- what all events do and what the others alone do is the same
pub record LeavesNoTrace (b : State) (es : List Event) (u : Undone) : Type 0 where
  -- both lists lead to one book,
  pub book : run_book b es ≡ run_book b (events_of (others u))
  -- and at the place of each of the others stands the reply that it gets alone
  pub replies : map (slice_get (run_replies b es)) (places_of (others u)) ≡ map Some (run_replies b (events_of (others u)))

abbrev pub UndoneAttemptsLeaveNoTrace : Type 0
UndoneAttemptsLeaveNoTrace =
    -- take a sound book, with any calls and attempts in it,
    (b : State) → IsSound b →
    -- and any events among which an attempt is opened and taken back, of any of the three kinds, from any stage, asked or by
    -- a timer, mixed in any order with what else happens to this call and to others;
    (es : List Event) (u : Undone) → IsUndoneAttempt b es u →
    -- if no release of its target is awaited any more,
    IsTrue (is_settled u) →
    -- and none of the others met a held refusal, then
    held_refusals u ≡ [] →
    LeavesNoTrace b es u
