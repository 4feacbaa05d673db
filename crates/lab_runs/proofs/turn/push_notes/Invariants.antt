use Rattle.std.proofs.Common.{◌≡◌, ◌++◌, take}
use Rattle.lab_runs.specs.Notes.{noted_at}
use Rattle.lab_runs.proofs.turn.push_notes.Given as goal

-- the notes so far were gone through
abbrev pub invariant-loop-note : goal.invariant-loop-note
invariant-loop-note g l = l.steps.items ≡ l.fn.steps.items ++ noted_at l.place (take l.note-index l.notes)
