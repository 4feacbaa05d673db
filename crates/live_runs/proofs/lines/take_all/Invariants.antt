use Rattle.std.proofs.Common.{◌≡◌, false}
use Rattle.lab_runs.specs.Course.{has_peer}
use Rattle.live_runs.proofs.LiveFacts.{Follows}
use Rattle.live_runs.proofs.lines.take_all.Given as goal

-- what was handled so far, and what is left
abbrev pub invariant-loop-number : goal.invariant-loop-number
invariant-loop-number g l = record {
  alone : has_peer l.live.course ≡ false;
  follows : Follows l.initial.rules.sims (g.R.Read.remaining l.initial.reader) (g.R.Read.remaining l.reader) l.initial.live l.live;
}
