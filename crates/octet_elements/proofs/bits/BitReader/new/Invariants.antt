use Rattle.std.proofs.Common.{◌≡◌, ◌*◌, length, take}
use Rattle.octet_elements.specs.Bits.{bits_of}
use Rattle.octet_elements.proofs.bits.BitReader.new.Given as goal

abbrev pub invariant-loop-octet : goal.invariant-loop-octet
invariant-loop-octet l = (l.bits ≡ bits_of (take l.octet-index l.octets)) × (length l.bits ≡ 8 * l.octet-index)
