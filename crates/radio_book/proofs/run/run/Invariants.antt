use Rattle.std.proofs.Common.{◌≡◌, ◌++◌, drop}
use Rattle.radio_book.specs.Run.{run_book, run_replies}
use Rattle.radio_book.proofs.run.run.Given as goal

-- the events that are left lead from here where all of them lead from the book
abbrev pub invariant-loop-event : goal.invariant-loop-event
invariant-loop-event g l = record {
  book : run_book l.after (drop l.event-index l.events) ≡ run_book l.book l.events;
  replies : l.replies.items ++ run_replies l.after (drop l.event-index l.events) ≡ run_replies l.book l.events;
}
