-- The settled attempts of a desk's history, taken out together. Ours, of no standard.
use Rattle.std.specs.Prelude.{◌≡◌, List}
use Rattle.radio_book.specs.declared.event.Event.{Event}
use Rattle.radio_book.specs.declared.event.Reply.{Reply}
use Rattle.radio_book.specs.declared.undone.StepAt.{StepAt}
use Rattle.radio_book.specs.State.{State}
use Rattle.radio_book.specs.Run.{Leads}
use Rattle.radio_book.specs.Undone.{Undone}
use Rattle.radio_book.specs.Together.{remaining}
use Rattle.radio_desk.specs.Audit.{events_in, steps_in, AreSettledIn, LeadsAlike}

-- what holds of the steps that remain of a history without all its settled attempts
abbrev pub OfTheRemaining : (State → List StepAt → State → Type 0) → State → List (Event × Reply) → State → Type 0
OfTheRemaining P opening history book = (us : List Undone) × AreSettledIn opening history us × P opening (remaining us (steps_in history)) book

-- asked alone they don't lead to the same book, or a reply is another
abbrev pub LeadsApart : State → List StepAt → State → Type 0
LeadsApart opening steps book = LeadsAlike opening steps book → ⊥

-- these events, asked one after another from a book, are a history of which this holds
abbrev pub OfTheHistory : (State → List StepAt → State → Type 0) → State → List Event → Type 0
OfTheHistory P opening es =
    (history : List (Event × Reply)) × (book : State) × (events_in history ≡ es) × Leads opening history book × OfTheRemaining P opening history book
