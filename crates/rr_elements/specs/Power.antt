-- Power Command and access type (TS 44.018 section 10.5.2.28a), without an identifier.
use Rattle.std.specs.Prelude.{ℕ, ◌^◌, ◌<◌, Bool, List, [], ◌∷◌}
use Rattle.octet_elements.specs.Fields.{AreFields, field_octets, flag}

-- whether the handover access may be left out, and the power level
pub record PowerCommand : Type 0 where
  pub atc : Bool
  pub level : ℕ

-- the level has its bits
abbrev pub PowerFits : PowerCommand → Type 0
PowerFits v = v.level < 2 ^ 5

-- ATC, two bits that are ignored, the level
abbrev pub power_widths : List ℕ
power_widths = 1 ∷ 2 ∷ 5 ∷ []

abbrev pub power_numbers : ℕ → PowerCommand → List ℕ
power_numbers spare v = flag v.atc ∷ spare ∷ v.level ∷ []

-- the octets are a text of the value, whatever the ignored bits are
abbrev pub IsPowerText : PowerCommand → List ℕ → Type 0
IsPowerText v octets = (spare : ℕ) × AreFields power_widths (power_numbers spare v) octets

-- the text that is written
abbrev pub power_text : PowerCommand → List ℕ
power_text v = field_octets power_widths (power_numbers 0 v)
