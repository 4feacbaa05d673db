use Rattle.std.proofs.Common.{◌≡◌}
use Rattle.storms.specs.Openings.{Keeps}
use Rattle.storms.proofs.front.Front.give_all.Given as goal

-- the office opened with the same book, and has what it was given
abbrev pub invariant-loop-input : goal.invariant-loop-input
invariant-loop-input g l = record {
  iterator : (goal.iterator-loop-input g).can_next l.input-iterator × (goal.iterator-loop-input g).is_finite l.input-iterator;
  opening : l.self.office.opening ≡ l.fn.self.office.opening;
  kept : Keeps l.fn.self.office l.self.office;
}
