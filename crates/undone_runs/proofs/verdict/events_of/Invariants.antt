use Rattle.std.proofs.Common.{◌≡◌, ◌++◌, drop}
use Rattle.radio_desk.specs.Audit.{events_in}
use Rattle.undone_runs.proofs.verdict.events_of.Given as goal

-- what was told, and what is left of the history, is all of it
abbrev pub invariant-loop-place : goal.invariant-loop-place
invariant-loop-place g l = l.events.items ++ events_in (drop l.place l.desk.history) ≡ events_in l.desk.history
