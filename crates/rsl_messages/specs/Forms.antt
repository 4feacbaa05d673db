-- The elements on Abis: identifiers and forms (TS 48.058 clause 9.3).
use Rattle.std.specs.Prelude.{ℕ, Bool, false, if◌then◌else◌, ◌==◌, ◌||◌, List, [], ◌∷◌}
use Rattle.octet_elements.specs.declared.form.Form.TheVariants.{Fixed, Counted, LongCounted}
use Rattle.octet_elements.specs.Elements.{Forms}

abbrev pub CHANNEL_NUMBER : ℕ
CHANNEL_NUMBER = 0x01

abbrev pub LINK_IDENTIFIER : ℕ
LINK_IDENTIFIER = 0x02

abbrev pub ACTIVATION_TYPE : ℕ
ACTIVATION_TYPE = 0x03

abbrev pub POWER : ℕ
POWER = 0x04

abbrev pub CHANNEL_MODE : ℕ
CHANNEL_MODE = 0x06

abbrev pub FRAME_NUMBER : ℕ
FRAME_NUMBER = 0x08

abbrev pub HANDOVER_REFERENCE : ℕ
HANDOVER_REFERENCE = 0x09

abbrev pub LAYER3 : ℕ
LAYER3 = 0x0B

abbrev pub ACCESS_DELAY : ℕ
ACCESS_DELAY = 0x11

abbrev pub UPLINK_MEASUREMENTS : ℕ
UPLINK_MEASUREMENTS = 0x19

abbrev pub CAUSE : ℕ
CAUSE = 0x1A

abbrev pub RESULT_NUMBER : ℕ
RESULT_NUMBER = 0x1B

-- the identifiers of the elements that messages use
abbrev pub known : List ℕ
known = CHANNEL_NUMBER ∷ LINK_IDENTIFIER ∷ ACTIVATION_TYPE ∷ POWER ∷ CHANNEL_MODE ∷ FRAME_NUMBER ∷ HANDOVER_REFERENCE ∷ LAYER3 ∷ ACCESS_DELAY ∷ UPLINK_MEASUREMENTS ∷ CAUSE ∷ RESULT_NUMBER ∷ []

abbrev pub is_one_of : ℕ → List ℕ → Bool
is_one_of i [] = false
is_one_of i (j ∷ js) = (i == j) || is_one_of i js

-- these have one octet, three of them in no message that is read here
abbrev pub one_octet : List ℕ
one_octet = CHANNEL_NUMBER ∷ LINK_IDENTIFIER ∷ ACTIVATION_TYPE ∷ POWER ∷ HANDOVER_REFERENCE ∷ 0x0D ∷ ACCESS_DELAY ∷ 0x18 ∷ RESULT_NUMBER ∷ 0x25 ∷ []

-- and these two, one of them in no message that is read here
abbrev pub two_octets : List ℕ
two_octets = FRAME_NUMBER ∷ 0x0A ∷ []

-- L3 information has a length of two octets, every other element a length of one
abbrev pub abis : Forms
abis i = if is_one_of i one_octet then Fixed 1 else if is_one_of i two_octets then Fixed 2 else if i == LAYER3 then LongCounted else Counted
