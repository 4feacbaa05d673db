use Rattle.std.proofs.Common.{◌≡◌, ◌↔◌, drop, map}
use Rattle.trace_entries.specs.Replies.{reply_text}
use Rattle.trace_entries.proofs.ReplyLemmas.{now_of}
use Rattle.trace_entries.proofs.entries.are_replies.Given as goal

-- what is left says the same
abbrev pub invariant-loop-place : goal.invariant-loop-place
invariant-loop-place g l = record {
  left : (now_of (drop l.place l.texts) ≡ map reply_text (drop l.place l.replies)) ↔ (now_of l.texts ≡ map reply_text l.replies);
}
