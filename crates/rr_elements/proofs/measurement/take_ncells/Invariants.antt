use Rattle.std.proofs.Common.{◌≡◌, ◌+◌, ◌*◌, ◌-◌, All, length, take, drop, replicate, flat_map}
use Rattle.octet_elements.specs.Bits.{cut, after, repeated_widths}
use Rattle.rr_elements.specs.MeasResults.{NcellFits, ncell_widths, ncell_numbers, no_ncell}
use Rattle.rr_elements.proofs.measurement.take_ncells.Given as goal

abbrev pub invariant-loop-i : goal.invariant-loop-i
invariant-loop-i l = record {
  numbers : flat_map ncell_numbers (take l.i l.places) ≡ cut (repeated_widths l.i ncell_widths) l.fn.bits;
  fits : All NcellFits (take l.i l.places);
  others : drop l.i l.places ≡ replicate (6 - l.i) no_ncell;
  rest : l.bits ≡ after (repeated_widths l.i ncell_widths) l.fn.bits;
  left : length l.bits + 17 * l.i ≡ length l.fn.bits;
  six : length l.places ≡ 6;
}
