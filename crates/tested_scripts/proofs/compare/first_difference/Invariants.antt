use Rattle.std.proofs.Common.{ℕ, ◌<◌, ◌≤◌, take, length, get_or, ◌↔◌}
use Rattle.std.specs.List.{Contains}
use Rattle.tested_scripts.specs.Lines.{texts_of}
use Rattle.tested_scripts.specs.Meeting.{Reaches, said_of, first_place}
use Rattle.tested_scripts.proofs.compare.first_difference.Given as goal

-- the places to which the lines so far lead, and the one of them that is furthest behind
abbrev pub invariant-loop-line : goal.invariant-loop-line
invariant-loop-line g l = record {
  led : (p : ℕ) → Contains l.places.items p ↔ Reaches (said_of l.came) (take l.line (texts_of l.lines)) (first_place (texts_of l.lines) (said_of l.came)) p;
  one : Contains l.places.items l.furthest;
  all : (k d : ℕ) → k < length l.places.items → get_or l.places.items k d ≤ l.furthest;
}
