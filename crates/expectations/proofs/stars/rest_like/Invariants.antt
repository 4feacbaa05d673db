use Rattle.std.proofs.Common.{◌≡◌, length, option_map}
use Rattle.expectations.specs.Stars as said
use Rattle.expectations.proofs.stars.rest_like.Given as goal

abbrev pub invariant-loop-left : goal.invariant-loop-left
invariant-loop-left l = said.rest_from l.left l.before (option_map (λ rest. rest.now) l.found) ≡ said.rest_like l.fn.line l.fn.text

abbrev pub decreases-loop-left : goal.decreases-loop-left
decreases-loop-left l = length l.left
