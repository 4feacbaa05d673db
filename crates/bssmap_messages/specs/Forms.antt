-- The elements on A: identifiers and forms (TS 48.008 clause 3.2.2).
use Rattle.std.specs.Prelude.{ℕ, ◌-◌, if◌then◌else◌, ◌==◌, List, [], ◌∷◌}
use Rattle.octet_elements.specs.declared.form.Form.{Form}
use Rattle.octet_elements.specs.declared.form.Form.TheVariants.{Fixed, Counted}
use Rattle.octet_elements.specs.Elements.{Forms}

abbrev pub CELL_IDENTIFIER : ℕ
CELL_IDENTIFIER = 0x05

abbrev pub CAUSE : ℕ
CAUSE = 0x04

abbrev pub ENCRYPTION_INFORMATION : ℕ
ENCRYPTION_INFORMATION = 0x0A

abbrev pub CHANNEL_TYPE : ℕ
CHANNEL_TYPE = 0x0B

abbrev pub CLASSMARK_2 : ℕ
CLASSMARK_2 = 0x12

abbrev pub RR_CAUSE : ℕ
RR_CAUSE = 0x15

abbrev pub LAYER_3_INFORMATION : ℕ
LAYER_3_INFORMATION = 0x17

abbrev pub CELL_IDENTIFIER_LIST : ℕ
CELL_IDENTIFIER_LIST = 0x1A

abbrev pub RESPONSE_REQUEST : ℕ
RESPONSE_REQUEST = 0x1B

abbrev pub CLASSMARK_1 : ℕ
CLASSMARK_1 = 0x1D

-- The elements of a fixed length: identifier, and how many octets they have with it. Three of them stand
-- in messages that are read here: RR cause, response request and classmark 1.
abbrev pub fixed_lengths : List (ℕ × ℕ)
fixed_lengths = (0x01, 3) ∷ (0x14, 2) ∷ (0x15, 2) ∷ (0x19, 2) ∷ (0x1B, 1) ∷ (0x1D, 2) ∷ (0x21, 2) ∷ (0x2C, 2) ∷ (0x2D, 2) ∷ (0x31, 2) ∷ (0x32, 2) ∷ (0x35, 1) ∷ (0x39, 2) ∷ (0x3F, 2) ∷ (0x40, 2) ∷ (0x7F, 5) ∷ (0x83, 17) ∷ (0x8A, 2) ∷ (0x8B, 2) ∷ (0x8C, 1) ∷ (0x8D, 2) ∷ (0x8E, 1) ∷ (0x8F, 1) ∷ (0x95, 4) ∷ []

-- an element of the table has its fixed length, every other one a length octet
abbrev pub form_in : List (ℕ × ℕ) → ℕ → Form
form_in [] i = Counted
form_in (entry ∷ table) i = if i == entry.0 then Fixed (entry.1 - 1) else form_in table i

abbrev pub interface_a : Forms
interface_a i = form_in fixed_lengths i

-- The elements that messages use. Of the first, the cell identifier, the second element counts too.
abbrev pub known : List ℕ
known = CELL_IDENTIFIER ∷ CAUSE ∷ ENCRYPTION_INFORMATION ∷ CHANNEL_TYPE ∷ CLASSMARK_2 ∷ RR_CAUSE ∷ LAYER_3_INFORMATION ∷ CELL_IDENTIFIER_LIST ∷ RESPONSE_REQUEST ∷ CLASSMARK_1 ∷ []
