use Rattle.std.proofs.Common.{◌≡◌, map, length}
use Rattle.radio_book.specs.declared.following.Followed.{Followed}
use Rattle.radio_book.specs.Following.{after}
use Rattle.radio_desk.specs.Followers.{IsEnough}
use Rattle.radio_desk.proofs.followers.go_on_at.Given as goal

-- the rest of the row is enough for what is left
abbrev pub invariant-loop-rest : goal.invariant-loop-rest
invariant-loop-rest l = record {
  enough : IsEnough l.attempts l.rest l.step;
  same : map (λ (p : Followed). after p l.step) l.attempts ≡ map (λ (p : Followed). after p l.step) l.initial.attempts;
}

abbrev pub decreases-loop-rest : goal.decreases-loop-rest
decreases-loop-rest l = length l.rest
