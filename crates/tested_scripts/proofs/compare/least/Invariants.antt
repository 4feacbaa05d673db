use Rattle.std.proofs.Common.{ℕ, ◌<◌, ◌≤◌, get_or}
use Rattle.std.specs.List.{Contains}
use Rattle.tested_scripts.proofs.compare.least.Given as goal

-- it is one of the places, and none so far is less
abbrev pub invariant-loop-place : goal.invariant-loop-place
invariant-loop-place l = record {
  one : Contains l.places l.least;
  least : (k d : ℕ) → k < l.place-index → l.least ≤ get_or l.places k d;
}
