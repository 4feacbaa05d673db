use Rattle.std.proofs.Common.{◌≡◌, length}
use Rattle.expectations.specs.Stars as said
use Rattle.expectations.proofs.stars.behind_star.Given as goal

abbrev pub invariant-loop-rest : goal.invariant-loop-rest
invariant-loop-rest l = said.behind_star l.rest l.fn.is_part ≡ said.behind_star l.fn.line l.fn.is_part

abbrev pub decreases-loop-rest : goal.decreases-loop-rest
decreases-loop-rest l = length l.rest
