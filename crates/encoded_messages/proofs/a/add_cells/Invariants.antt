use Rattle.std.proofs.Common.{◌≡◌, ◌++◌, length, option_map}
use denote.Text.{Utf8}
use denote.Shadow.{shadow}
use Rattle.encoded_messages.specs.Words.{parts_of}
use Rattle.encoded_messages.specs.A.{cells_of}
use Rattle.encoded_messages.proofs.a.add_cells.Given as goal

abbrev pub invariant-loop-part : goal.invariant-loop-part
invariant-loop-part g l = record {
  text : shadow (Utf8 l.left);
  cells : option_map (λ more. l.initial.cells.items ++ more) (cells_of (parts_of l.fn.value)) ≡ option_map (λ more. l.cells.items ++ more) (cells_of (parts_of l.left));
}

abbrev pub decreases-loop-part : goal.decreases-loop-part
decreases-loop-part g l = length l.left
