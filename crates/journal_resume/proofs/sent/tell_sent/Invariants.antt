use Rattle.std.proofs.Common.{length}
use Rattle.journal_resume.proofs.Fronts.{ToldSoFar}
use Rattle.journal_resume.proofs.sent.tell_sent.Given as goal

abbrev pub invariant-loop-taken : goal.invariant-loop-taken
invariant-loop-taken g l = ToldSoFar l.heard l.octets l.left (g.W.Write.contents l.fn.out) (g.W.Write.contents l.out)

abbrev pub decreases-loop-taken : goal.decreases-loop-taken
decreases-loop-taken g l = length l.left
