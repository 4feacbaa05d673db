use Rattle.std.proofs.Common.{◌≡◌, length}
use Rattle.expectations.specs.Comments as said
use Rattle.expectations.proofs.comments.behind_signs.Given as goal

abbrev pub invariant-loop-rest : goal.invariant-loop-rest
invariant-loop-rest l = said.behind_signs l.rest ≡ said.behind_signs l.fn.text

abbrev pub decreases-loop-rest : goal.decreases-loop-rest
decreases-loop-rest l = length l.rest
