use Rattle.std.proofs.Common.{◌≡◌, ◌≤◌, take}
use Rattle.journal_resume.specs.Ends.{without_zeros}
use Rattle.journal_resume.proofs.ends.without_zeros.Given as goal

-- the octets so far, without the zeros at their end
abbrev pub invariant-loop-place : goal.invariant-loop-place
invariant-loop-place l = record {
  front : take l.length l.octets ≡ without_zeros (take l.place l.octets);
  within : l.length ≤ l.place;
}
