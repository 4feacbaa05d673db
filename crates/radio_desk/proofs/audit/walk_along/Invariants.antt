use Rattle.std.proofs.Common.{◌≡◌, ◌+◌, ◌≤◌, ◌++◌, [], length}
use Rattle.std.specs.Option.{option_or}
use Rattle.radio_book.specs.Found.{first_place}
use Rattle.radio_book.specs.Following.{settling_count, remaining_from, all_held_from}
use Rattle.radio_desk.specs.Followers.{AreRows, open_among, settled_flags}
use Rattle.radio_desk.proofs.audit.walk_along.Given as goal

-- what was found, and what will be of the steps that are left
abbrev pub invariant-loop-rest : goal.invariant-loop-rest
invariant-loop-rest g l = record {
  rows : AreRows l.walk.followers.rows l.walk.followers.attempts.items;
  flags : l.flags ≡ settled_flags l.rest;
  within : l.walk.attempts + length l.rest ≤ length l.steps;
  attempts : l.walk.attempts + settling_count l.rest ≡ settling_count l.steps;
  remaining : l.walk.remaining.items ++ remaining_from (open_among l.walk.followers.attempts.items) l.rest ≡ remaining_from [] l.steps;
  held : option_or l.walk.held (first_place (all_held_from (open_among l.walk.followers.attempts.items) l.rest)) ≡ first_place (all_held_from [] l.steps);
}

abbrev pub decreases-loop-rest : goal.decreases-loop-rest
decreases-loop-rest g l = length l.rest
