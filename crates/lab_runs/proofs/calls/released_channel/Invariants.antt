use Rattle.std.proofs.Common.{◌≡◌, drop, None}
use Rattle.lab_runs.specs.Asked as said
use Rattle.lab_runs.proofs.calls.released_channel.Given as goal

-- no entry from the place on gave it
abbrev pub invariant-loop-place : goal.invariant-loop-place
invariant-loop-place g l = said.released_in l.fn.desk.book l.fn.call (drop l.place l.fn.desk.history) ≡ None

abbrev pub decreases-loop-place : goal.decreases-loop-place
decreases-loop-place g l = l.place
