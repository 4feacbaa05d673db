use Rattle.std.proofs.Common.{◌≡◌, length}
use Rattle.capture.specs.Checksum.{words, ones_sum}
use Rattle.capture.proofs.checksum.ones_sum.Given as goal

-- what is left goes on to the sum of all
abbrev pub invariant-loop-octets : goal.invariant-loop-octets
invariant-loop-octets l = ones_sum l.sum (words l.octets) ≡ ones_sum l.fn.sum (words l.fn.octets)

abbrev pub decreases-loop-octets : goal.decreases-loop-octets
decreases-loop-octets l = length l.octets
