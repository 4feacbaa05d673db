-- Cell Description (TS 44.018 section 10.5.2.2), without an identifier.
use Rattle.std.specs.Prelude.{ℕ, ◌/◌, ◌%◌, ◌^◌, ◌<◌, List, [], ◌∷◌}
use Rattle.octet_elements.specs.Fields.{AreFields, field_octets}

-- the carrier of the cell's BCCH, and the two halves of its colour
pub record Cell : Type 0 where
  pub arfcn : ℕ
  pub ncc : ℕ
  pub bcc : ℕ

-- each field has its bits
pub record CellFits (v : Cell) : Type 0 where
  pub arfcn : v.arfcn < 2 ^ 10
  pub ncc : v.ncc < 2 ^ 3
  pub bcc : v.bcc < 2 ^ 3

-- The first octet has the two high bits of the carrier, NCC and BCC; the second has the carrier's other bits.
abbrev pub cell_widths : List ℕ
cell_widths = 2 ∷ 3 ∷ 3 ∷ 8 ∷ []

abbrev pub cell_numbers : Cell → List ℕ
cell_numbers v = v.arfcn / 256 ∷ v.ncc ∷ v.bcc ∷ v.arfcn % 256 ∷ []

-- the octets are a text of the value
abbrev pub IsCellText : Cell → List ℕ → Type 0
IsCellText v octets = AreFields cell_widths (cell_numbers v) octets

-- the text that is written
abbrev pub cell_text : Cell → List ℕ
cell_text v = field_octets cell_widths (cell_numbers v)
