use Rattle.std.proofs.Common.{◌≡◌, ◌++◌, drop, string_bytes}
use Rattle.journal_resume.specs.Heads.{event_lines}
use Rattle.journal_resume.proofs.head.event_lines.Given as goal

-- the lines so far, and those that the book gives from here on, are all
abbrev pub invariant-loop-event : goal.invariant-loop-event
invariant-loop-event g l = string_bytes l.lines ++ event_lines l.book (drop l.event-index l.events) ≡ event_lines l.fn.book l.events
