-- The steps of a history: its entries, each at its place; and what an audit says of them. Ours, of no standard.
use Rattle.std.specs.Prelude.{◌≡◌, ◌↔◌, ℕ, IsTrue, true, List, map, length, None}
use Rattle.std.specs.List.{enumerate_from}
use Rattle.radio_book.specs.declared.event.Event.{Event}
use Rattle.radio_book.specs.declared.event.Reply.{Reply}
use Rattle.radio_book.specs.declared.undone.StepAt.{StepAt}
use Rattle.radio_book.specs.State.{State}
use Rattle.radio_book.specs.Run.{run_book, run_replies}
use Rattle.radio_book.specs.Undone.{Undone, events_of, replies_of}
use Rattle.radio_book.specs.Found.{first_place}
use Rattle.radio_book.specs.Together.{AreSettled, remaining, held_steps}
use Rattle.radio_desk.specs.declared.audit.Audit.{Audit}
use Rattle.radio_desk.specs.Desk.{DeskState}

abbrev pub events_in : List (Event × Reply) → List Event
events_in history = map (λ s. s.0) history

abbrev pub step_at : ℕ × (Event × Reply) → StepAt
step_at p = record { place = p.0; event = p.1.0; reply = p.1.1 }

abbrev pub steps_in : List (Event × Reply) → List StepAt
steps_in history = map step_at (enumerate_from 0 history)

-- these are the attempts of the history from this book that were undone and are settled, all of them, in the order of their openings
abbrev pub AreSettledIn : State → List (Event × Reply) → List Undone → Type 0
AreSettledIn opening history us = AreSettled opening (events_in history) us

-- the steps, asked alone from one book, lead to the other, and get the replies that they have
pub record LeadsAlike (opening : State) (steps : List StepAt) (book : State) : Type 0 where
  pub leads : run_book opening (events_of steps) ≡ book
  pub replies : run_replies opening (events_of steps) ≡ replies_of steps

-- The audit is that of a history that leads from one book to another: it says how many its settled attempts are, which entry is
-- the first that was refused for what one of them held, and whether what remains without them, asked alone, comes to the same.
-- Where no entry was refused so, they left no trace together.
pub record IsHistoryAudit (opening : State) (history : List (Event × Reply)) (book : State) (audit : Audit) : Type 0 where
  pub attempts : (us : List Undone) × AreSettledIn opening history us × (audit.attempts ≡ length us)
  pub held : (us : List Undone) → AreSettledIn opening history us → audit.held ≡ first_place (held_steps us (steps_in history))
  pub same : (us : List Undone) → AreSettledIn opening history us → IsTrue audit.same ↔ LeadsAlike opening (remaining us (steps_in history)) book
  pub no_trace : audit.held ≡ None → audit.same ≡ true

-- it is that of a desk's history
abbrev pub IsAuditOf : DeskState → Audit → Type 0
IsAuditOf d audit = IsHistoryAudit d.opening d.history d.book audit
