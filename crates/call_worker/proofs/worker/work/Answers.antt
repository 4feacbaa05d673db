use Rattle.std.proofs.Common.{◌≡◌, true, refl, ap, ◌∙◌}
use Rattle.crossbeam_channel.specs.Claims.{view, IsSeatAt}
use Rattle.crossbeam_channel.specs.Ends.{receives_on}
use Rattle.radio_desk.specs.Receipts.{receipted}
use Rattle.call_worker.specs.Turns.{inputs_of}
use Rattle.call_worker.proofs.Turning.{follows-none}
use Rattle.call_worker.proofs.worker.work.Goals as goal
use Rattle.call_worker.proofs.worker.work.Goals.{in-None, in-Some+in_default}

pub loop-init : goal.loop-init
loop-init g c = record {
  iterator = (tt, tt);
  seat = c.requires.pass.0;
  takes = ap (λ v. v.takes) c.requires.pass.1;
  site = c.new.ensures.site;
  follows = follows-none _ _ _ _ _ _ _ (ap (λ v. inputs_of v.taken) c.requires.pass.1) (ap receipted (c.new.ensures.view ∙ c.requires.fresh.0)) c.new.ensures.reports c.new-2.ensures.items c.requires.fresh.1;
}

pub loop-preserved : goal.loop-preserved
loop-preserved g c =
    let e = c.in-Some-next_input.ensures in
    let i = c.loop.invariant in record {
      iterator = (tt, tt);
      seat = e.seat.0;
      takes = e.seat.1;
      site = c.receive.ensures.site ∙ i.site;
      follows = rw (e.input, c.receive.ensures.site) (c.receive.ensures.follows _ _ i.follows);
    }

pub returns : goal.returns
returns g c =
    let ends : IsSeatAt (receives_on c.args.inbox) c.match-next.pass × ((view c.match-next.pass).takes ≡ true) × (inputs_of (view c.match-next.pass).taken ≡ inputs_of (view c.loop.pass).taken) =
    elim c.match-next.branch [ in-None w ↦ rw w.pass-is (c.loop.invariant.seat, c.loop.invariant.takes, refl) | in-Some+in_default w ↦ let h = w.in_default.ensures in rw w.pass-is (h.seat.0, h.seat.1, h.input) ] in
    let f = c.loop.invariant.follows in
    let receipts : c.into_receipts.result.items ≡ c.loop.worker.controller.0 = c.into_receipts.ensures.receipts ∙ (c.into_shared.ensures ∙ c.into_view.ensures.view) in record {
      seated = ends.0;
      takes = ends.1;
      in_order = (f.in_order.0, ends.2 ∙ f.in_order.1);
      work = rw (← c.loop.invariant.site, receipts) f.work;
      rising = c.into_receipts.ensures.rising;
    }
