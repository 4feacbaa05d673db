use Rattle.std.proofs.Common.{List, length}
use Rattle.journal_resume.specs.Resume.{Numbered}
use Rattle.journal_resume.specs.Wholes.{AreInFront}
use Rattle.journal_resume.proofs.wholes.behind_records.Given as goal

-- the records so far
abbrev pub invariant-loop-taken : goal.invariant-loop-taken
invariant-loop-taken l = (records : List Numbered) × AreInFront records l.octets l.left

abbrev pub decreases-loop-taken : goal.decreases-loop-taken
decreases-loop-taken l = length l.left
