use Rattle.std.proofs.Common.{◌≡◌, length, true}
use Rattle.expectations.specs.Ends as said
use Rattle.expectations.proofs.ends.is_even.Given as goal

abbrev pub invariant-loop-rest : goal.invariant-loop-rest
invariant-loop-rest l = said.is_even l.rest l.is_even ≡ said.is_even l.fn.text true

abbrev pub decreases-loop-rest : goal.decreases-loop-rest
decreases-loop-rest l = length l.rest
