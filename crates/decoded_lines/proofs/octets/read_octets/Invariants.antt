use Rattle.std.proofs.Common.{◌≡◌, ◌++◌, length, option_map}
use Rattle.decoded_lines.specs.Lines.{octets_of}
use Rattle.decoded_lines.proofs.octets.read_octets.Given as goal

abbrev pub invariant-loop-left : goal.invariant-loop-left
invariant-loop-left g l = record {
  gives : option_map (λ more. l.octets.items ++ more) (octets_of l.left) ≡ octets_of l.text;
}

abbrev pub decreases-loop-left : goal.decreases-loop-left
decreases-loop-left g l = length l.left
