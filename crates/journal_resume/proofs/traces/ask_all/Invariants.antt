use Rattle.std.proofs.Common.{◌≡◌, ◌++◌, drop}
use Rattle.radio_book.specs.Run.{run_book, run_replies}
use Rattle.trace_entries.specs.Entries.{events_of}
use Rattle.journal_resume.proofs.traces.ask_all.Given as goal

-- the events that are left lead from here where all of them lead from the book
abbrev pub invariant-loop-entry : goal.invariant-loop-entry
invariant-loop-entry g l = record {
  book : run_book l.book (events_of (drop l.entry-index l.entries)) ≡ run_book l.fn.book (events_of l.entries);
  replies : l.replies.items ++ run_replies l.book (events_of (drop l.entry-index l.entries)) ≡ run_replies l.fn.book (events_of l.entries);
}
