use Rattle.std.proofs.Common.{ap, ◌∙◌}
use Rattle.timeslots.specs.declared.Rate.TheVariants.{Full}
use Rattle.lab_runs.specs.declared.noting.Note.{Note}
use Rattle.lab_runs.proofs.StepFacts.{noted_told, noted_passed}
use Rattle.lab_runs.proofs.turn.push_notes.Goals as goal
use Rattle.lab_runs.proofs.turn.push_notes.Goals.{then-note-place+in_ok-push, else-note-place}

pub loop-note-preserved : goal.loop-note-preserved
loop-note-preserved g c =
    let d : Note = record { place = 0; cell = 0; rate = Full } in
    elim c.if-note-place.branch [
      | then-note-place+in_ok-push w ↦
          ap (λ (steps : _). steps.items) w.steps-is
          ∙ noted_told c.args.steps.now.items c.loop-note.steps.items w.push.new.self.items c.args.place c.args.notes.now c.loop-note.note-index d c.loop-note-test.true
          c.loop-note.invariant w.if-note-place.true w.in_ok-push.ensures.items
      | else-note-place w ↦
          ap (λ (steps : _). steps.items) w.steps-is
          ∙ noted_passed c.args.steps.now.items c.loop-note.steps.items c.args.place c.args.notes.now c.loop-note.note-index d c.loop-note-test.true
          c.loop-note.invariant w.if-note-place.false
    ]
