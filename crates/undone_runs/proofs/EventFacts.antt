-- Facts of what was asked of a desk, from a place on.
use Rattle.std.proofs.Common.{◌≡◌, ◌+◌, ◌++◌, ◌<◌, ℕ, List, drop, length, append_assoc, add-one, slice_get}
use Rattle.radio_book.specs.declared.event.Event.{Event}
use Rattle.radio_book.specs.declared.event.Reply.{Reply}
use Rattle.radio_desk.specs.Audit.{events_in}
use Rattle.lab_runs.proofs.StepFacts.{drop_next, there}
use Rattle.undone_runs.specs.Events.{event_at}

-- one more event of a history was told
pub event_told : (told more : List Event) (place : ℕ) (history : List (Event × Reply)) → place < length history → more ≡ told ++ event_at (slice_get history place)
    → more ++ events_in (drop (place + 1) history) ≡ told ++ events_in (drop place history)
event_told told more place history l m =
    let at = there history place l in
    rw (m, at.1, add-one place, drop_next history place at.0 at.1) (append_assoc told _ _)
