-- What a gate is told. Ours, of no standard.
use Rattle.std.specs.Prelude.{ℕ, if◌then◌else◌, Option, Some, None, option_map, option_and_then}
use Rattle.radio_book.specs.declared.event.Event.{Event}
use Rattle.radio_book.specs.declared.facts.Milestone.{Milestone}
use Rattle.radio_book.specs.declared.facts.Milestone.TheVariants as milestone
use Rattle.radio_book.specs.Facts.{event_facts}
use Rattle.radio_book.specs.Kinds.{call_of, is_accepted}
use Rattle.radio_desk.specs.Receipts.{Receipt}
use Rattle.call_worker.specs.declared.gate.Point.{Point}
use Rattle.call_worker.specs.declared.gate.Point.TheVariants.{Commanded, Answered}

-- the point to which a call comes at a milestone: its mobile is to be sent to the target, or its attempt has ended
abbrev pub point_at : Milestone → Option Point
point_at milestone.Opened = None
point_at milestone.Began = None
point_at milestone.Commanded = Some Commanded
point_at milestone.Completed = Some Answered
point_at milestone.Undone = Some Answered

-- the call that comes to a point by an event
abbrev pub point_of : Event → Option (ℕ × Point)
point_of e = option_and_then (λ c. option_map (λ p. (c, p)) (option_and_then point_at (event_facts e).milestone)) (call_of e)

-- and the same, once the event was accepted
abbrev pub told_of : Receipt → Option (ℕ × Point)
told_of receipt = if is_accepted receipt.reply then point_of receipt.event else None
