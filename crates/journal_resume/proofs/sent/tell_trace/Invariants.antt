use Rattle.std.specs.List.{flat_map}
use Rattle.std.specs.Io.KnownBytes.{Appends}
use Rattle.trace_entries.proofs.ReplyLemmas.{now_of}
use Rattle.journal_resume.specs.Wholes.{told_at}
use Rattle.journal_resume.proofs.sent.tell_trace.Given as goal

-- the lines so far were told
abbrev pub invariant-loop-line : goal.invariant-loop-line
invariant-loop-line g l = record {
  can_next : (goal.iterator-loop-line g).can_next l.line-iterator;
  is_finite : (goal.iterator-loop-line g).is_finite l.line-iterator;
  told : Appends (g.W.Write.contents l.fn.out) (g.W.Write.contents l.out) (flat_map (told_at l.number) (now_of l.yielded));
}
