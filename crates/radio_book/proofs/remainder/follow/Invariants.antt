use Rattle.std.proofs.Common.{◌≡◌, ◌++◌, drop}
use Rattle.radio_book.specs.Following.{others_from, held_from, at_last}
use Rattle.radio_book.proofs.remainder.follow.Given as goal

-- what is gathered, and what will be of the steps that are left
abbrev pub invariant-loop-step : goal.invariant-loop-step
invariant-loop-step g l = record {
  kept : l.kept.items ++ others_from l.last (drop l.step-index l.behind) ≡ l.fn.front ++ others_from l.fn.opening l.behind;
  held : l.held.items ++ held_from l.last (drop l.step-index l.behind) ≡ held_from l.fn.opening l.behind;
  last : at_last l.last (drop l.step-index l.behind) ≡ at_last l.fn.opening l.behind;
}
