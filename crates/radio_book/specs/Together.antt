-- All attempts of a list of events that were undone and are settled, taken out together. Ours, of no standard. The words for one
-- attempt are those of Undone.
use Rattle.std.specs.Prelude.{◌≡◌, ◌<◌, ◌==◌, Bool, IsTrue, List, [], filter, All, AllPairs, Contains}
use Rattle.std.specs.List.{list_any, list_all}
use Rattle.radio_book.specs.declared.event.Event.{Event}
use Rattle.radio_book.specs.declared.undone.StepAt.{StepAt}
use Rattle.radio_book.specs.State.{State}
use Rattle.radio_book.specs.Sound.{IsSound}
use Rattle.radio_book.specs.Run.{run_book, run_replies}
use Rattle.radio_book.specs.Undone.{Undone, IsUndoneAttempt, steps_from, events_of, replies_of, others, is_settled, held_refusals}

-- the attempts among the events from this book that were undone and are settled: all of them, in the order of their openings
pub record AreSettled (b : State) (es : List Event) (us : List Undone) : Type 0 where
  pub undone : All (IsUndoneAttempt b es) us
  pub settled : All (λ u. IsTrue (is_settled u)) us
  pub all : (u : Undone) → IsUndoneAttempt b es u → IsTrue (is_settled u) → Contains us u
  pub in_order : AllPairs (λ u v. u.opening.place < v.opening.place) us

-- a step of this place stands in the list
abbrev pub stands_in : List StepAt → StepAt → Bool
stands_in steps s = list_any (λ t. t.place == s.place) steps

-- the remaining steps: those that are others of every one of the attempts
abbrev pub remaining : List Undone → List StepAt → List StepAt
remaining us steps = filter (λ s. list_all (λ u. stands_in (others u) s) us) steps

-- the held steps: those that are a held refusal of one of them
abbrev pub held_steps : List Undone → List StepAt → List StepAt
held_steps us steps = filter (λ s. list_any (λ u. stands_in (held_refusals u) s) us) steps

-- what all events do and what the remaining steps alone do is the same
pub record LeaveNoTrace (b : State) (es : List Event) (us : List Undone) : Type 0 where
  -- both lists lead to one book,
  pub book : run_book b es ≡ run_book b (events_of (remaining us (steps_from 0 b es)))
  -- and each of the remaining steps got the reply that it gets alone
  pub replies : replies_of (remaining us (steps_from 0 b es)) ≡ run_replies b (events_of (remaining us (steps_from 0 b es)))

abbrev pub SettledAttemptsLeaveNoTrace : Type 0
SettledAttemptsLeaveNoTrace =
    -- take a sound book, with any calls and attempts in it,
    (b : State) → IsSound b →
    -- and any events, with all attempts among them that were undone and are settled, one behind another or overlapping;
    (es : List Event) (us : List Undone) → AreSettled b es us →
    -- if no step was refused for what one of them held, then
    held_steps us (steps_from 0 b es) ≡ [] →
    LeaveNoTrace b es us
