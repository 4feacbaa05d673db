use Rattle.std.proofs.Common.{◌≡◌, ◌++◌, length, All}
use denote.Text.{Utf8}
use denote.Shadow.{shadow}
use Rattle.encoded_messages.specs.FieldFaults.{read_map}
use Rattle.rr_elements.specs.MeasResults.{NcellFits}
use Rattle.encoded_messages.specs.Rr.{neighbours_in}
use Rattle.encoded_messages.proofs.rr.add_neighbours.Given as goal

abbrev pub invariant-loop-value : goal.invariant-loop-value
invariant-loop-value g l = record {
  text : shadow (Utf8 l.left);
  fits : All NcellFits l.found.items;
  neighbours : read_map (λ more. l.initial.found.items ++ more) (neighbours_in l.fn.fields) ≡ read_map (λ more. l.found.items ++ more) (neighbours_in l.left);
}

abbrev pub decreases-loop-value : goal.decreases-loop-value
decreases-loop-value g l = length l.left
