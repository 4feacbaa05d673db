use Rattle.std.proofs.Common.{◌≡◌, drop}
use Rattle.trace_entries.specs.Entries.{first_other}
use Rattle.trace_entries.proofs.ReplyLemmas.{now_of}
use Rattle.trace_entries.proofs.entries.first_among.Given as goal

-- the first of those that are left
abbrev pub invariant-loop-place : goal.invariant-loop-place
invariant-loop-place g l = record {
  left : first_other (drop l.place l.entries) (now_of (drop l.place l.texts)) (drop l.place l.replies) ≡ first_other l.entries (now_of l.texts) l.replies;
}
