use Rattle.std.proofs.Common.{◌≡◌, length, true}
use Rattle.expectations.specs.Ends as said
use Rattle.expectations.proofs.ends.last_word.Given as goal

abbrev pub invariant-loop-rest : goal.invariant-loop-rest
invariant-loop-rest l = said.last_from l.rest l.word ≡ said.last_from l.fn.text l.fn.text

abbrev pub decreases-loop-rest : goal.decreases-loop-rest
decreases-loop-rest l = length l.rest
