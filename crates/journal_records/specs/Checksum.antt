-- The cyclic redundancy check of IEEE 802.3 (clause 3.2.9), as a register of 32 bits that takes the bits of each octet lowest
-- first. The generator polynomial is x^32 + x^26 + x^23 + x^22 + x^16 + x^12 + x^11 + x^10 + x^8 + x^7 + x^5 + x^4 + x^2 + x + 1;
-- the register has the coefficient of x^31 lowest.
use Rattle.std.specs.Prelude.{ℕ, ◌==◌, ◌/◌, ◌%◌, ◌^◌, if◌then◌else◌, List, fold, bit_xor, zero, suc}

-- the generator polynomial without its highest term: EDB88320
abbrev pub generator : ℕ
generator = 3988292384

-- 32 ones: FFFFFFFF
abbrev pub all_ones : ℕ
all_ones = 4294967295

-- a bit leaves the register; where it is a one, the generator is added
unfoldable pub shifted : ℕ → ℕ
shifted register = if register % 2 == 1 then bit_xor (register / 2) generator else register / 2

-- so many bits leave
abbrev pub shifts : ℕ → ℕ → ℕ
shifts zero register = register
shifts (suc count) register = shifted (shifts count register)

-- an octet is added, and its eight bits leave
abbrev pub after_octet : ℕ → ℕ → ℕ
after_octet register octet = shifts 8 (bit_xor register octet)

-- the check of some octets, in 32 bits: the register begins with ones, and is complemented at the end
unfoldable pub checksum : List ℕ → ℕ
checksum octets = bit_xor (fold after_octet all_ones octets) all_ones % 2 ^ 32
