-- Octets as fields: a table of widths, and the numbers of the fields.
use Rattle.std.specs.Prelude.{◌≡◌, ℕ, ◌*◌, Bool, true, false, List, length, take}
use Rattle.octet_elements.specs.Bits.{bits_of, total, cut, bits_written, octets_of}

-- the octets are fields of these widths, and the fields are these numbers
pub record AreFields (widths numbers octets : List ℕ) : Type 0 where
  pub len : 8 * length octets ≡ total widths
  pub pieces : cut widths (bits_of octets) ≡ numbers

-- the octets are fields of these widths, and the first of the fields are these numbers
pub record AreFirstFields (widths numbers octets : List ℕ) : Type 0 where
  pub len : 8 * length octets ≡ total widths
  pub pieces : take (length numbers) (cut widths (bits_of octets)) ≡ numbers

-- the octets of fields of these widths
abbrev pub field_octets : List ℕ → List ℕ → List ℕ
field_octets widths numbers = octets_of (bits_written widths numbers)

-- a field of one bit
abbrev pub flag : Bool → ℕ
flag true = 1
flag false = 0
