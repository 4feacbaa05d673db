use Rattle.std.proofs.Common.{◌≡◌, length}
use Rattle.screen_text.specs.Lines.{with_text}
use Rattle.screen_text.specs.Tallies.{stand_of}
use Rattle.screen_text.proofs.tally.Tally.pass_all.Given as goal

abbrev pub invariant-loop-left : goal.invariant-loop-left
invariant-loop-left l = record {
  counted : l.self.counted ≡ l.fn.self.counted;
  stand : with_text l.fn.self.counted (stand_of l.self) l.left ≡ with_text l.fn.self.counted (stand_of l.fn.self) l.octets;
}

abbrev pub decreases-loop-left : goal.decreases-loop-left
decreases-loop-left l = length l.left
