use Rattle.std.proofs.Common.{◌≡◌, ◌+◌, ◌*◌, ◌++◌, length, take, flat_map}
use Rattle.octet_elements.specs.Bits.{bits_written}
use Rattle.rr_elements.specs.MeasResults.{ncell_widths, ncell_numbers}
use Rattle.rr_elements.proofs.measurement.put_ncells.Given as goal

abbrev pub invariant-loop-ncell : goal.invariant-loop-ncell
invariant-loop-ncell l = record {
  bits : l.bits ≡ l.fn.bits ++ flat_map (λ n. bits_written ncell_widths (ncell_numbers n)) (take l.ncell-index l.ncells);
  len : length l.bits ≡ length l.fn.bits + 17 * l.ncell-index;
}
