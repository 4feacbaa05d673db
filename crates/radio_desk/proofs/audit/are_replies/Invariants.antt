use Rattle.std.proofs.Common.{◌≡◌, ◌↔◌, length}
use Rattle.radio_book.specs.Undone.{replies_of}
use Rattle.radio_desk.proofs.audit.are_replies.Given as goal

-- what is left holds just where the whole does
abbrev pub invariant-loop-rest : goal.invariant-loop-rest
invariant-loop-rest l = (l.left ≡ replies_of l.rest) ↔ (l.replies ≡ replies_of l.steps)

abbrev pub decreases-loop-rest : goal.decreases-loop-rest
decreases-loop-rest l = length l.rest
