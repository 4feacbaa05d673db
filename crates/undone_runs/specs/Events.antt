-- What a desk was asked. Ours, of no standard.
use Rattle.std.specs.Prelude.{List, [], ◌∷◌, Option, Some, None}
use Rattle.radio_book.specs.declared.event.Event.{Event}
use Rattle.radio_book.specs.declared.event.Reply.{Reply}

-- the event of an entry, if there is any
abbrev pub event_at : Option (Event × Reply) → List Event
event_at None = []
event_at (Some entry) = entry.0 ∷ []
