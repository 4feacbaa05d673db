use Rattle.std.proofs.Common.{◌<◌, ◌∙◌, length, arith}
use Rattle.lab_runs.proofs.StepFacts.{entry_told}
use Rattle.lab_runs.proofs.turn.steps_from.Goals as goal

pub loop-place-preserved : goal.loop-place-preserved
loop-place-preserved g c =
    let within : c.loop-place.place < length c.args.desk.now.history = omega (arith, c.len-place-end.ensures.len, c.loop-place-test.true) in
    entry_told c.loop-place.steps.items c.push_notes.new.steps.items c.push_entry.new.steps.items c.loop-place.place c.args.notes.now c.args.desk.now.history within
    c.in_ok-push_notes.ensures c.in_ok-push_entry.ensures ∙ c.loop-place.invariant
