use Rattle.std.proofs.KnownBytes.{Appends-nil}
use Rattle.journal_resume.proofs.Fronts.{behind_is_shorter, none_told, one_told}
use Rattle.journal_resume.proofs.sent.tell_sent.Goals as goal

pub loop-taken-init : goal.loop-taken-init
loop-taken-init g c =
    let known = g.W.Write.contents c.args.out.now in
    none_told c.args.heard c.args.octets.now known (Appends-nil known)

pub loop-taken-smaller : goal.loop-taken-smaller
loop-taken-smaller g c =
    let taken = c.in-Ok.taken in
    behind_is_shorter c.loop-taken.left.now taken.number taken.body.now taken.behind.now c.in-Ok.ensures.read

pub loop-taken-preserved : goal.loop-taken-preserved
loop-taken-preserved g c =
    let taken = c.in-Ok.taken in
    one_told c.args.heard c.args.octets.now c.loop-taken.left.now _ _ _ taken.number taken.body.now taken.behind.now
    c.loop-taken.invariant c.in-Ok.ensures.read c.in_ok-tell_unheard.ensures
