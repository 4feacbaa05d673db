use Rattle.std.proofs.Common.{◌≡◌, drop}
use Rattle.std.specs.List.{list_any}
use Rattle.lab_runs.specs.Asked as said
use Rattle.lab_runs.proofs.calls.is_taken_from.Given as goal

-- no entry so far gave it
abbrev pub invariant-loop-place : goal.invariant-loop-place
invariant-loop-place g l = list_any (said.takes l.chan) (drop l.place l.desk.history) ≡ list_any (said.takes l.fn.chan) (drop l.fn.first l.fn.desk.history)
