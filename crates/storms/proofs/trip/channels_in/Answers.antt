use Rattle.std.proofs.Common.{◌∙◌, ap, length, arith}
use Rattle.std.specs.Int.{from_bool}
use Rattle.cell_table.specs.Site.{is_traffic}
use Rattle.storms.proofs.Places.{counted_at, none_behind, one_at_most}
use Rattle.storms.proofs.trip.channels_in.Goals as goal

pub loop-place-preserved : goal.loop-place-preserved
loop-place-preserved g c =
    let site = c.args.site.now in
    let place = c.loop-place.place in
    let one = c.from-count.ensures ∙ ap from_bool (c.is_traffic.ensures.value ∙ ap (is_traffic site) c.place_in.ensures) in
    record {
      counted = omega (arith, c.loop-place.invariant.counted, one, counted_at site c.args.cell place c.loop-place-test.true);
      bound = omega (arith, c.loop-place.invariant.bound, c.from-count.ensures, one_at_most c.is_traffic.result);
    }

pub returns : goal.returns
returns g c = omega (arith, c.loop-place.invariant.counted, ap length (none_behind c.args.site.now c.args.cell c.loop-place.place c.loop-place-test.false))
