use Rattle.std.proofs.Common.{◌≡◌, take}
use Rattle.storms.specs.declared.watch.Phase.TheVariants.{Opening}
use Rattle.storms.specs.Openings.{AreGivenToOpen, Keeps}
use Rattle.storms.proofs.front.Front.pass.Given as goal

-- the office opened with the same book, and has what it was given; where calls are opened, those so far are among it
abbrev pub invariant-loop-trip : goal.invariant-loop-trip
invariant-loop-trip g l = record {
  opening : l.self.office.opening ≡ l.fn.self.office.opening;
  kept : Keeps l.fn.self.office l.self.office;
  given : l.phase ≡ Opening → AreGivenToOpen l.self.office (take l.trip-index l.trips);
}
