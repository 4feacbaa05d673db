use Rattle.std.proofs.Common.{◌≡◌}
use Rattle.trace_entries.proofs.ReplyLemmas.{now_of, replies_of}
use Rattle.trace_entries.proofs.entries.reply_texts.Given as goal

abbrev pub invariant-loop-line : goal.invariant-loop-line
invariant-loop-line g l = record {
  can_next : (goal.iterator-loop-line g).can_next l.line-iterator;
  is_finite : (goal.iterator-loop-line g).is_finite l.line-iterator;
  read : now_of l.texts.items ≡ replies_of (now_of l.yielded);
}
