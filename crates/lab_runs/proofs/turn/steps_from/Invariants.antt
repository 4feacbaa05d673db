use Rattle.std.proofs.Common.{◌≡◌, ◌++◌, drop}
use Rattle.lab_runs.specs.Notes.{with_notes}
use Rattle.lab_runs.proofs.turn.steps_from.Given as goal

-- what was told, and what is left of the history, is all of it from the first event on, with the notes
abbrev pub invariant-loop-place : goal.invariant-loop-place
invariant-loop-place g l = l.steps.items ++ with_notes l.place l.fn.notes (drop l.place l.desk.history) ≡ with_notes l.fn.first l.fn.notes (drop l.fn.first l.fn.desk.history)
