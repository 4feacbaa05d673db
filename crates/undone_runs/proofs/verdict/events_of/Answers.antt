use Rattle.std.proofs.Common.{◌<◌, ◌∙◌, length, arith}
use Rattle.undone_runs.proofs.EventFacts.{event_told}
use Rattle.undone_runs.proofs.verdict.events_of.Goals as goal

pub loop-place-preserved : goal.loop-place-preserved
loop-place-preserved g c =
    let within : c.loop-place.place < length c.args.desk.now.history = omega (arith, c.len-place-end.ensures.len, c.loop-place-test.true) in
    event_told c.loop-place.events.items c.push_event.new.events.items c.loop-place.place c.args.desk.now.history within c.in_ok-push_event.ensures ∙ c.loop-place.invariant
