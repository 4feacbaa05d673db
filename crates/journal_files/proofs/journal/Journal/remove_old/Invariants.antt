use Rattle.std.proofs.Common.{◌≡◌, length}
use Rattle.journal_files.specs.Journals.{file_of, waiting_of, last_of, spans_of, octets_of, keep_of, OldestGo}
use Rattle.journal_files.proofs.journal.Journal.remove_old.Given as goal

-- the oldest have gone so far, and nothing else changes
abbrev pub invariant-loop-number : goal.invariant-loop-number
invariant-loop-number g l = record {
  spans : OldestGo (keep_of l.fn.self) (spans_of l.fn.self) (spans_of l.self);
  file : file_of l.self ≡ file_of l.fn.self;
  last : last_of l.self ≡ last_of l.fn.self;
  waiting : waiting_of l.self ≡ waiting_of l.fn.self;
  octets : octets_of l.self ≡ octets_of l.fn.self;
  keep : keep_of l.self ≡ keep_of l.fn.self;
}

abbrev pub decreases-loop-number : goal.decreases-loop-number
decreases-loop-number g l = length (spans_of l.self)
