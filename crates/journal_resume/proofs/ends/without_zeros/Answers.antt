use Rattle.std.proofs.Common.{◌≡◌, ◌≢◌, ◌<◌, ◌∙◌, ap, take, length, get_or, arith}
use Rattle.journal_resume.proofs.Zeros.{zero_at, other_at}
use Rattle.journal_resume.proofs.ends.without_zeros.Goals as goal
use Rattle.journal_resume.proofs.ends.without_zeros.Goals.{then-octets-place-ne0, else-octets-place-ne0}

pub loop-place-preserved : goal.loop-place-preserved
loop-place-preserved c =
    let xs = c.args.octets.now in
    let i = c.loop-place.place in
    let within : i < length xs = omega (arith, c.loop-place-test.true) in
    elim c.if-octets-place-ne0.branch [
      | then-octets-place-ne0 w ↦
          let some : get_or xs i 0 ≢ 0 = λ e. grind (arith, w.if-octets-place-ne0.true, e) in
          record { front = ap (λ n. take n xs) w.length-is ∙ other_at xs i within some; within = omega (arith, w.length-is) }
      | else-octets-place-ne0 w ↦
          let is : get_or xs i 0 ≡ 0 = grind (arith, w.if-octets-place-ne0.false) in
          record {
            front = ap (λ n. take n xs) w.length-is ∙ zero_at xs i c.loop-place.length within is c.loop-place.invariant.front;
            within = omega (arith, w.length-is, c.loop-place.invariant.within);
          }
    ]
