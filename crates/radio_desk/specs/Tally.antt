-- What a history tells of calls and handovers. Ours, of no standard.
use Rattle.std.specs.Prelude.{ℕ, Bool, false, ◌==◌, ◌&&◌, List, Option, Some, None, count_by}
use Rattle.radio_book.specs.declared.event.Event.{Event}
use Rattle.radio_book.specs.declared.event.Reply.{Reply}
use Rattle.radio_book.specs.declared.facts.Milestone.{Milestone}
use Rattle.radio_book.specs.declared.facts.Milestone.TheVariants.{Opened, Began, Commanded, Completed, Undone}
use Rattle.radio_book.specs.Facts.{event_facts}
use Rattle.radio_book.specs.Kinds.{is_accepted}

abbrev pub milestone_number : Milestone → ℕ
milestone_number Opened = 0
milestone_number Began = 1
milestone_number Commanded = 2
milestone_number Completed = 3
milestone_number Undone = 4

-- a milestone was reached, and it is this one
abbrev pub is_reached : Milestone → Option Milestone → Bool
is_reached milestone None = false
is_reached milestone (Some reached) = milestone_number milestone == milestone_number reached

-- how many entries are accepted and are such a milestone
abbrev pub count_of : Milestone → List (Event × Reply) → ℕ
count_of milestone history = count_by (λ s. is_accepted s.1 && is_reached milestone (event_facts s.0).milestone) history
