use Rattle.std.proofs.Common.{length}
use Rattle.journal_resume.proofs.Fronts.{CountedSoFar}
use Rattle.journal_resume.proofs.sent.last_number.Given as goal

abbrev pub invariant-loop-taken : goal.invariant-loop-taken
invariant-loop-taken l = CountedSoFar l.first l.octets l.left l.last l.are_numbered

abbrev pub decreases-loop-taken : goal.decreases-loop-taken
decreases-loop-taken l = length l.left
