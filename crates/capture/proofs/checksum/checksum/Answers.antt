use Rattle.std.proofs.Common.{rules, ◌≡◌, ◌%◌, length, arith}
use Rattle.capture.specs.Checksum.{words, ones_sum, checksum}
use Rattle.capture.proofs.Sums.{words-append, ones_sum-append}
use Rattle.capture.proofs.checksum.checksum.Goals as goal

pub returns : goal.returns
unfolding checksum
returns c =
    let even : length c.args.head.now % 2 ≡ 0 = omega arith in
    rw (words-append c.args.head.now c.args.octets.now even) (rw ones_sum-append (search rules))
