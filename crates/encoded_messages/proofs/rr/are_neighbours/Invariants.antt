use Rattle.std.proofs.Common.{◌≡◌, length}
use denote.Text.{Utf8}
use denote.Shadow.{shadow}
use Rattle.encoded_messages.specs.Rr.{neighbours_in, are_so_many}
use Rattle.encoded_messages.proofs.rr.are_neighbours.Given as goal

abbrev pub invariant-loop-value : goal.invariant-loop-value
invariant-loop-value l = record {
  text : shadow (Utf8 l.left);
  neighbours : are_so_many l.fn.count (neighbours_in l.fn.fields) ≡ are_so_many l.missing (neighbours_in l.left);
}

abbrev pub decreases-loop-value : goal.decreases-loop-value
decreases-loop-value l = length l.left
