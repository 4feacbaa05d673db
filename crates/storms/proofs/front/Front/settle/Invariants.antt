use Rattle.std.proofs.Common.{◌≡◌}
use Rattle.storms.specs.Openings.{Keeps}
use Rattle.storms.proofs.front.Front.settle.Given as goal

-- the office opened with the same book, and has what it was given
abbrev pub invariant-loop : goal.invariant-loop
invariant-loop g l = record {
  iterator : (goal.iterator-loop g).can_next l.iterator' × (goal.iterator-loop g).is_finite l.iterator';
  opening : l.self.office.opening ≡ l.fn.self.office.opening;
  kept : Keeps l.fn.self.office l.self.office;
}
