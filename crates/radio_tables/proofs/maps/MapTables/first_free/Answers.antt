use Rattle.std.proofs.Common.{Some, sym, ◌∙◌, ap}
use Rattle.radio_tables.specs.Places.{is_free_at}
use Rattle.radio_tables.proofs.Chosen.{found_at, passed_at, passed_all}
use Rattle.radio_tables.proofs.maps.MapTables.first_free.Goals as goal

pub loop-place-preserved : goal.loop-place-preserved
loop-place-preserved g c =
    let b = c.args.self.now in
    let busy = sym (ap (is_free_at b c.args.rate) c.channel_at-x.ensures) ∙ sym c.is_free_at.ensures ∙ c.if-is_free_at.false in
    sym (passed_at (is_free_at b c.args.rate) c.args.cell c.loop-place.place c.loop-place-test.true busy) ∙ c.loop-place.invariant

pub returns-then-is_free_at : goal.returns-then-is_free_at
returns-then-is_free_at g c =
    let b = c.args.self.now in
    let free = sym (ap (is_free_at b c.args.rate) c.channel_at-x.ensures) ∙ sym c.is_free_at.ensures ∙ c.if-is_free_at.true in
    ap Some c.channel_at-x.ensures ∙ sym (found_at (is_free_at b c.args.rate) c.args.cell c.loop-place.place c.loop-place-test.true free) ∙ c.loop-place.invariant

pub returns : goal.returns
returns g c = sym (passed_all (is_free_at c.args.self.now c.args.rate) c.args.cell c.loop-place.place c.loop-place-test.false) ∙ c.loop-place.invariant
