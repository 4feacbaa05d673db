use Rattle.std.proofs.Common.{[], ◌∷◌, ◌++◌}
use Rattle.journal_resume.proofs.Fronts.{behind_is_shorter, in_front_more}
use Rattle.journal_resume.proofs.wholes.behind_records.Goals as goal

pub loop-taken-smaller : goal.loop-taken-smaller
loop-taken-smaller c =
    let taken = c.in-Ok.taken in
    behind_is_shorter c.loop-taken.left.now taken.number taken.body.now taken.behind.now c.in-Ok.ensures.read

pub loop-taken-preserved : goal.loop-taken-preserved
loop-taken-preserved c =
    let taken = c.in-Ok.taken in
    let before = c.loop-taken.invariant in (
      before.0 ++ (taken.number, taken.body.now) ∷ [],
      in_front_more before.0 c.args.octets.now c.loop-taken.left.now taken.number taken.body.now taken.behind.now before.1 c.in-Ok.ensures.read,
    )
