use Rattle.std.proofs.Common.{◌∙◌, ◌+◌, Some, sym, ap, slice_get, arith}
use Rattle.cell_table.specs.Site.{is_traffic}
use Rattle.storms.proofs.Places.{traffic_from, found_at, fewer_at, passed_at, none_behind}
use Rattle.storms.proofs.trip.channel_at.Goals as goal
use Rattle.storms.proofs.trip.channel_at.Goals.{then-is_traffic+else-left-eq0, else-is_traffic}

pub returns-then-left-eq0 : goal.returns-then-left-eq0
returns-then-left-eq0 g c =
    let site = c.args.site.now in
    let is = sym (c.is_traffic.ensures.value ∙ ap (is_traffic site) c.place_in-chan.ensures) ∙ c.if-is_traffic.true in
    ap Some c.place_in-chan.ensures
    ∙ sym (found_at site c.args.cell c.loop-slot.slot c.loop-slot.left c.loop-slot-test.true is c.if-left-eq0.true)
    ∙ c.loop-slot.invariant

pub loop-slot-preserved : goal.loop-slot-preserved
loop-slot-preserved g c =
    let site = c.args.site.now in
    let slot = c.loop-slot.slot in
    let left = c.loop-slot.left in
    let told = sym (c.is_traffic.ensures.value ∙ ap (is_traffic site) c.place_in-chan.ensures) in
    elim c.if-is_traffic.branch [
      | then-is_traffic+else-left-eq0 w ↦
          ap (slice_get (traffic_from site c.args.cell (slot + 1))) w.left-is
          ∙ sym (fewer_at site c.args.cell slot left c.loop-slot-test.true (told ∙ w.if-is_traffic.true) (omega (arith, w.if-left-eq0.false)))
          ∙ c.loop-slot.invariant
      | else-is_traffic w ↦
          ap (slice_get (traffic_from site c.args.cell (slot + 1))) w.left-is
          ∙ ap (λ xs. slice_get xs left) (sym (passed_at site c.args.cell slot c.loop-slot-test.true (told ∙ w.if-is_traffic.false)))
          ∙ c.loop-slot.invariant
    ]

pub returns : goal.returns
returns g c =
    ap (λ xs. slice_get xs c.loop-slot.left) (sym (none_behind c.args.site.now c.args.cell c.loop-slot.slot c.loop-slot-test.false))
    ∙ c.loop-slot.invariant
