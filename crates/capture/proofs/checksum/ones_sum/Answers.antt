use Rattle.std.proofs.Common.{◌≡◌, ◌∙◌, sym}
use Rattle.capture.specs.Checksum.{ones_add, ones_sum, words}
use Rattle.capture.proofs.Sums.{sum_step, sum_one, sum_none}
use Rattle.capture.proofs.checksum.ones_sum.Goals as goal

pub loop-octets-preserved : goal.loop-octets-preserved
loop-octets-preserved c =
    rw (c.ones_add-sum.ensures, c.from.ensures, c.from-in-len2-up.ensures)
    (sym (sum_step c.loop-octets.sum c.loop-octets.octets.now c.in-len2-up.len_at_least) ∙ c.loop-octets.invariant)

pub returns-in-empty : goal.returns-in-empty
returns-in-empty c = sym (sum_none c.loop-octets.sum c.loop-octets.octets.now c.in-empty.len_below) ∙ c.loop-octets.invariant

pub returns-in-len1-up : goal.returns-in-len1-up
returns-in-len1-up c =
    rw (c.ones_add.ensures, c.from-in-len1-up.ensures)
    (sym (sum_one c.loop-octets.sum c.loop-octets.octets.now c.in-len1-up.len_at_least c.in_default.len_below) ∙ c.loop-octets.invariant)
