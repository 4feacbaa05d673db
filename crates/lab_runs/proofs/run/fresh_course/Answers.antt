use Rattle.std.proofs.Common.{◌≡◌, IfOk, is_some, sym, ap, ◌∙◌, subst}
use Rattle.lab_runs.specs.Course.{has_peer}
use Rattle.lab_runs.proofs.CourseFacts.{is_there_still}
use Rattle.lab_runs.proofs.run.fresh_course.Goals as goal

-- the peer that is shared is that of the sites
pub returns-clause-peer : goal.returns-clause-peer
returns-clause-peer g c =
    let same : is_some c.in_ok-peer.peer ≡ is_some c.args.sites.peer = sym (is_there_still (λ shared. shared.value) c.in_ok-peer.peer) ∙ ap is_some c.in_ok-peer.ensures in
    subst (λ there. IfOk c.new.result (λ course. has_peer course ≡ there)) same c.new.ensures.peer
