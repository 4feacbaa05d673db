-- A desk of one's own, with notes of where no channel was free. Ours, of no standard.
use Rattle.std.specs.Prelude.{◌≡◌, ◌++◌, ◌∷◌, ◌==◌, if◌then◌else◌, ℕ, suc, List, [], Option, Some, None, length, refl}
use Rattle.std.specs.Coded.{Coded, code_by, coded×, coded_list}
use Rattle.timeslots.specs.declared.Rate.{Rate}
use Rattle.radio_book.specs.declared.ask.Ask.{Ask}
use Rattle.radio_book.specs.declared.ask.Ask.TheVariants as ask
use Rattle.radio_book.specs.State.{State}
use Rattle.radio_desk.specs.Desk.{DeskState, desk_code}
use Rattle.radio_desk.specs.Receipts.{Receipt}
use Rattle.ho_procedure.specs.Claims.{Entry, IsTrueAfter}
use Rattle.ho_procedure.specs.Claims as claim
use Rattle.trace_text.specs.declared.trace.Step.{Step}
use Rattle.trace_text.specs.declared.trace.Step.TheVariants.{Asked, NoneFree}
use Rattle.lab_runs.specs.declared.noting.Note.{Note}
use Rattle.lab_runs.specs.contracts.noting.Note.{the_row as note_row}

pub record NotingState : Type 0 where
  pub desk : DeskState
  -- where no channel was free, in the order in which one was asked for
  pub notes : List Note

abbrev pub noting_code : Coded NotingState
noting_code = code_by (DeskState × List Note) (coded× desk_code (coded_list note_row.coded)) (λ n. (n.desk, n.notes)) (λ p. record { desk = p.0; notes = p.1 }) (λ _. refl)

-- once as many events had been asked as the note says, no channel of its cell was free at its rate
pub record IsTrueNote (d : DeskState) (n : Note) : Type 0 where
  pub before : List Entry
  pub behind : List Entry
  pub history : d.history ≡ before ++ behind
  pub place : length before ≡ n.place
  pub none_free : IsTrueAfter d.opening before (claim.NoneFree n.cell n.rate)

-- the cell and the rate of a channel that is asked for
abbrev pub sought_by : Ask → Option (ℕ × Rate)
sought_by (ask.Event e) = None
sought_by (ask.Take c kind cell rate) = Some (cell, rate)
sought_by (ask.Open c cell rate) = Some (cell, rate)
sought_by (ask.Reserve c) = None

-- the note that none was free, after so many entries
abbrev pub note_at : ℕ → Option (ℕ × Rate) → List Note
note_at place None = []
note_at place (Some (cell, rate)) = record { place = place; cell = cell; rate = rate } ∷ []

-- the notes once a desk answered a receipt, or that no channel is free for what was asked
abbrev pub notes_after : NotingState → Ask → Option Receipt → List Note
notes_after v a (Some receipt) = v.notes
notes_after v a None = v.notes ++ note_at (length v.desk.history) (sought_by a)

-- the notes of a place
abbrev pub noted_at : ℕ → List Note → List Step
noted_at place [] = []
noted_at place (n ∷ notes) = if n.place == place then NoneFree n.cell n.rate ∷ noted_at place notes else noted_at place notes

-- an entry, if there is any
abbrev pub step_of : Option Entry → List Step
step_of None = []
step_of (Some (event, reply)) = Asked event reply ∷ []

-- entries from a place on, each behind the notes of its place, and the notes of the last entry's end
abbrev pub with_notes : ℕ → List Note → List Entry → List Step
with_notes place notes [] = noted_at place notes
with_notes place notes ((event, reply) ∷ entries) = noted_at place notes ++ Asked event reply ∷ with_notes (suc place) notes entries

-- Steps behind a log are true: where they say that no channel of a cell was free, none was, after all that was asked before.
abbrev pub AreTrueSteps : State → List Entry → List Step → Type 0
AreTrueSteps opening log [] = Unit {0}
AreTrueSteps opening log (Asked event reply ∷ steps) = AreTrueSteps opening (log ++ (event, reply) ∷ []) steps
AreTrueSteps opening log (NoneFree cell rate ∷ steps) = IsTrueAfter opening log (claim.NoneFree cell rate) × AreTrueSteps opening log steps
