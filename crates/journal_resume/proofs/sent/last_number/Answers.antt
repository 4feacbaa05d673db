use Rattle.journal_resume.proofs.Fronts.{behind_is_shorter, none_counted, one_counted}
use Rattle.journal_resume.proofs.sent.last_number.Goals as goal

pub loop-taken-init : goal.loop-taken-init
loop-taken-init c = none_counted c.args.first c.args.octets.now

pub loop-taken-smaller : goal.loop-taken-smaller
loop-taken-smaller c =
    let taken = c.in-Ok.taken in
    behind_is_shorter c.loop-taken.left.now taken.number taken.body.now taken.behind.now c.in-Ok.ensures.read

pub loop-taken-preserved : goal.loop-taken-preserved
loop-taken-preserved c =
    let taken = c.in-Ok.taken in
    one_counted c.args.first c.args.octets.now c.loop-taken.left.now c.loop-taken.last c.loop-taken.are_numbered _ taken.number taken.body.now taken.behind.now
    c.loop-taken.invariant c.in-Ok.ensures.read c.stay_numbered-are_numbered.ensures
