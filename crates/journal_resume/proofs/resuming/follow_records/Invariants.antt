use Rattle.std.proofs.Common.{◌≡◌, ◌+◌}
use Rattle.journal_resume.proofs.Steps.{SoFar}
use Rattle.journal_resume.proofs.resuming.follow_records.Given as goal

-- the records so far, and the number of the next
abbrev pub invariant-loop-next : goal.invariant-loop-next
invariant-loop-next g l = record {
  so_far : SoFar l.fn.opening l.number l.octets l.resumed.book l.resumed.last l.resumed.left.now;
  next : l.next ≡ l.resumed.last + 1;
}
