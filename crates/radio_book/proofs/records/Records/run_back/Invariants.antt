use Rattle.std.proofs.Common.{◌≡◌, length}
use Rattle.radio_book.specs.Journal.{run_back, journal_of}
use Rattle.radio_book.specs.PutBack.{put_back}
use Rattle.radio_book.proofs.records.Records.run_back.Given as goal

-- what is left to run leads to the same book, once what is kept is put back
abbrev pub invariant-loop-inverse : goal.invariant-loop-inverse
invariant-loop-inverse g l = record {
  leads : run_back l.call l.journal (put_back l.call l.kept l.self) ≡ run_back l.fn.call (journal_of l.fn.entry.call.attempt) l.fn.self;
  calls : l.self.calls ≡ l.fn.self.calls;
}

abbrev pub decreases-loop-inverse : goal.decreases-loop-inverse
decreases-loop-inverse g l = length l.journal
