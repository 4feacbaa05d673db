use Rattle.std.proofs.Common.{◌≡◌, true}
use Rattle.crossbeam_channel.specs.Claims.{view, IsSeatAt}
use Rattle.crossbeam_channel.specs.Ends.{receives_on}
use Rattle.ho_procedure.specs.Going.{last_reports}
use Rattle.radio_desk.specs.Receipts.{receipted}
use Rattle.call_worker.specs.Turns.{Follows, inputs_of}
use Rattle.call_worker.proofs.worker.work.Given as goal

abbrev pub invariant-loop : goal.invariant-loop
invariant-loop g l = record {
  iterator : (goal.iterator-loop g).can_next l.iterator' × (goal.iterator-loop g).is_finite l.iterator';
  seat : IsSeatAt (receives_on l.inbox) l.pass;
  takes : (view l.pass).takes ≡ true;
  site : l.worker.controller.2 ≡ l.fn.site.value;
  follows : Follows l.worker.controller.2 (g.L.Links.passed l.fn.links) (inputs_of (view l.pass).taken) (receipted l.worker.controller.0) (last_reports l.worker.controller.1) l.worker.taken.items (g.L.Links.passed l.worker.links) (g.L.Links.refused l.worker.links) l.worker.keeps;
}
