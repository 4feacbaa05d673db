use Rattle.std.proofs.Common.{◌≡◌, ◌++◌, map, length}
use Rattle.radio_book.specs.declared.following.Followed.{Followed}
use Rattle.radio_book.specs.Following.{settles}
use Rattle.radio_desk.specs.Followers.{AreRows, settled_flags}
use Rattle.radio_desk.proofs.audit.settled_flags.Given as goal

-- what the steps that are left say of those that are followed, and of those that will open
abbrev pub invariant-loop-rest : goal.invariant-loop-rest
invariant-loop-rest g l = record {
  rows : AreRows l.followers.rows l.followers.attempts.items;
  flags : map (λ (p : Followed). settles p l.rest) l.followers.attempts.items ++ settled_flags l.rest ≡ settled_flags l.steps;
}

abbrev pub decreases-loop-rest : goal.decreases-loop-rest
decreases-loop-rest g l = length l.rest
