use Rattle.std.proofs.Common.{ℕ, ◌+◌, ◌<◌, ◌≤◌, ◌↔◌, min, length}
use Rattle.std.specs.List.{Contains}
use Rattle.tested_scripts.specs.Meeting.{said_of}
use Rattle.tested_scripts.proofs.compare.places_from.Given as goal

-- the places so far
abbrev pub invariant-loop-place : goal.invariant-loop-place
invariant-loop-place g l = record {
  low : min l.first (length (said_of l.came) + 1) ≤ l.place;
  all : (p : ℕ) → Contains l.found.items p ↔ ((min l.first (length (said_of l.came) + 1) ≤ p) × (p < l.place));
}
