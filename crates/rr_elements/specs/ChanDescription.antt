-- Channel Description 2 (TS 44.018 section 10.5.2.5a), without an identifier: a traffic channel that does not hop.
use Rattle.std.specs.Prelude.{◌≡◌, ℕ, ◌/◌, ◌%◌, ◌^◌, ◌<◌, List, [], ◌∷◌, length}
use Rattle.rr_elements.specs.Faults.{HasOtherLength}
use Rattle.octet_elements.specs.ChannelTypes.{type_of}
use Rattle.timeslots.specs.declared.Sub.{Sub}
use Rattle.octet_elements.specs.Fields.{AreFields, AreFirstFields, field_octets}
use Rattle.rr_elements.specs.declared.fault.ElementFault.{ElementFault}
use Rattle.rr_elements.specs.declared.fault.ElementFault.TheVariants.{Length, BadType, Hopping, BadRange}

-- timeslot, which of its traffic channels, training sequence code and carrier
pub record Chan : Type 0 where
  pub tn : ℕ
  pub sub : Sub
  pub tsc : ℕ
  pub carrier : ℕ

-- each field has its bits
pub record ChanFits (v : Chan) : Type 0 where
  pub tn : v.tn < 2 ^ 3
  pub tsc : v.tsc < 2 ^ 3
  pub carrier : v.carrier < 2 ^ 10

-- The first octet has the channel type and TN; the second TSC, H, two spare bits and the two high bits of the carrier;
-- the third has the carrier's other bits.
abbrev pub chan_widths : List ℕ
chan_widths = 5 ∷ 3 ∷ 3 ∷ 1 ∷ 2 ∷ 2 ∷ 8 ∷ []

-- a traffic channel, H 0
abbrev pub chan_numbers : ℕ → Chan → List ℕ
chan_numbers spare v = type_of v.sub ∷ v.tn ∷ v.tsc ∷ 0 ∷ spare ∷ v.carrier / 256 ∷ v.carrier % 256 ∷ []

-- the octets are a text of the value, whatever the spare bits are
abbrev pub IsChanText : Chan → List ℕ → Type 0
IsChanText v octets = (spare : ℕ) × AreFields chan_widths (chan_numbers spare v) octets

-- the text that is written
abbrev pub chan_text : Chan → List ℕ
chan_text v = field_octets chan_widths (chan_numbers 0 v)

-- The first fault of octets: they are not three; their type is that of no traffic channel of one timeslot; it is that of
-- one, and H is 1.
abbrev pub HasChanFault : List ℕ → ElementFault → Type 0
HasChanFault octets Length = HasOtherLength 3 octets Length
HasChanFault octets BadType = (length octets ≡ 3) × ((sub : Sub) → AreFirstFields chan_widths (type_of sub ∷ []) octets → ⊥)
HasChanFault octets Hopping = (sub : Sub) × (tn tsc : ℕ) × AreFirstFields chan_widths (type_of sub ∷ tn ∷ tsc ∷ 1 ∷ []) octets
HasChanFault octets BadRange = ⊥
