use Rattle.std.proofs.Common.{◌∙◌, ap, arith}
use Rattle.std.specs.Int.{from_bool}
use Rattle.radio_tables.specs.Places.{is_free_traffic}
use Rattle.radio_tables.proofs.Chosen.{counted_at, counted_all, one_at_most}
use Rattle.radio_tables.proofs.maps.MapTables.count_free.Goals as goal

pub loop-place-preserved : goal.loop-place-preserved
loop-place-preserved g c =
    let b = c.args.self.now in
    let place = c.loop-place.place in
    let one = c.from-count.ensures ∙ ap from_bool (c.is_free_traffic.ensures ∙ ap (is_free_traffic b) c.channel_at.ensures) in
    record {
      counted = omega (arith, c.loop-place.invariant.counted, one, counted_at b c.args.cell place c.loop-place-test.true);
      bound = omega (arith, c.loop-place.invariant.bound, c.from-count.ensures, one_at_most c.is_free_traffic.result);
    }

pub returns : goal.returns
returns g c = c.loop-place.invariant.counted ∙ counted_all c.args.self.now c.args.cell c.loop-place.place c.loop-place-test.false
