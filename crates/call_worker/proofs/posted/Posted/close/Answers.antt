use Rattle.std.proofs.Common.{◌++◌, ap, ◌∙◌}
use Rattle.call_worker.specs.Turns.{inputs_of}
use Rattle.call_worker.proofs.Turning.{taken_of}
use Rattle.call_worker.proofs.posted.Posted.close.Goals as goal

pub returns : goal.returns
returns g c =
    let site = ap (λ y. y.site) c.self.view_is in
    let given = ap (λ y. y.given) c.self.view_is in
    let links = ap (λ y. y.links) c.self.view_is in
    let j = c.join-receipts.ensures in
    let s = c.settle.ensures.order in record {
      given = given;
      taken = (j.in_order.0 ++ inputs_of s.0, taken_of _ _ s.0 _ _ j.in_order.0 (c.send_last.ensures.sent ∙ (c.self.invariant.3 ∙ given)) s.1 j.in_order.1);
      work = rw (← site, ← links) j.work;
      rising = j.rising;
    }
