-- Radio resource messages (TS 44.018 sections 9.1 and 10): a discriminator, a type, a mandatory part, and any rest.
use Rattle.std.specs.Prelude.{◌≡◌, ◌≢◌, ◌⊎◌, ℕ, ◌+◌, ◌^◌, ◌<◌, List, [], ◌∷◌, ◌++◌, length}
use Rattle.rr_elements.specs.CellDescription.{CellFits, IsCellText, cell_text}
use Rattle.rr_elements.specs.ChanDescription.{ChanFits, IsChanText, chan_text, HasChanFault}
use Rattle.rr_elements.specs.Power.{PowerFits, IsPowerText, power_text}
use Rattle.rr_elements.specs.RrCause.{IsCauseText, cause_text}
use Rattle.rr_elements.specs.MeasResults.{ResultsFit, IsResultsText, results_text}
use Rattle.rr_elements.specs.declared.fault.ElementFault.{ElementFault}
use Rattle.rr_messages.specs.declared.kind.MessageType.{MessageType}
use Rattle.rr_messages.specs.declared.kind.MessageType.TheVariants as kind
use Rattle.rr_messages.specs.declared.fault.RrFault.{RrFault}
use Rattle.rr_messages.specs.declared.fault.RrFault.TheVariants.{NotRr, UnknownType, Short, Element, NoMemory}
use Rattle.rr_messages.specs.declared.message.Rr.{Rr}
use Rattle.rr_messages.specs.declared.message.Rr.TheVariants.{HandoverCommand, HandoverComplete, HandoverFailure, ChannelRelease, PhysicalInformation, MeasurementReport}
use Rattle.rr_messages.specs.Kind.{type_of, part_len}

-- the message type of a value
abbrev pub kind_of : Rr → MessageType
kind_of (HandoverCommand cell channel reference power) = kind.HandoverCommand
kind_of (HandoverComplete cause) = kind.HandoverComplete
kind_of (HandoverFailure cause) = kind.HandoverFailure
kind_of (ChannelRelease cause) = kind.ChannelRelease
kind_of (PhysicalInformation advance) = kind.PhysicalInformation
kind_of (MeasurementReport results) = kind.MeasurementReport

-- the octets are a mandatory part of the value: its elements, one after the other
abbrev pub IsPart : Rr → List ℕ → Type 0
IsPart (HandoverCommand cell channel reference power) octets =
    (first second last : List ℕ) × IsCellText cell first × IsChanText channel second × IsPowerText power last × (octets ≡ first ++ second ++ reference ∷ last)
IsPart (HandoverComplete cause) octets = IsCauseText cause octets
IsPart (HandoverFailure cause) octets = IsCauseText cause octets
IsPart (ChannelRelease cause) octets = IsCauseText cause octets
IsPart (PhysicalInformation advance) octets = octets ≡ advance ∷ []
IsPart (MeasurementReport results) octets = IsResultsText results octets

-- the protocol discriminator of radio resource management (section 10.2)
abbrev pub radio_resources : ℕ
radio_resources = 6

-- the octets are the discriminator, a type, a mandatory part of its length, and any rest
pub record IsFramed (k : MessageType) (part octets : List ℕ) : Type 0 where
  pub rest : List ℕ
  pub len : length part ≡ part_len k
  pub octets_are : octets ≡ radio_resources ∷ type_of k ∷ part ++ rest

-- the octets are a text of the value: they are framed with its type, and with a part of it
abbrev pub IsRrText : Rr → List ℕ → Type 0
IsRrText v octets = (part : List ℕ) × IsFramed (kind_of v) part octets × IsPart v part

-- the mandatory part that is written
abbrev pub part_text : Rr → List ℕ
part_text (HandoverCommand cell channel reference power) = cell_text cell ++ chan_text channel ++ reference ∷ power_text power
part_text (HandoverComplete cause) = cause_text cause
part_text (HandoverFailure cause) = cause_text cause
part_text (ChannelRelease cause) = cause_text cause
part_text (PhysicalInformation advance) = advance ∷ []
part_text (MeasurementReport results) = results_text results

-- the text that is written: no rest
abbrev pub rr_text : Rr → List ℕ
rr_text v = radio_resources ∷ type_of (kind_of v) ∷ part_text v

-- how many octets are written
abbrev pub text_len : Rr → ℕ
text_len v = 2 + part_len (kind_of v)

-- each field has its bits
abbrev pub Fits : Rr → Type 0
Fits (HandoverCommand cell channel reference power) = CellFits cell × ChanFits channel × (reference < 2 ^ 8) × PowerFits power
Fits (HandoverComplete cause) = cause.0 < 2 ^ 8
Fits (HandoverFailure cause) = cause.0 < 2 ^ 8
Fits (ChannelRelease cause) = cause.0 < 2 ^ 8
Fits (PhysicalInformation advance) = advance < 2 ^ 8
Fits (MeasurementReport results) = ResultsFit results

-- The part has a bad element. No element of a part of its length is bad but the channel, the second
-- element of a handover command, which comes after the two octets of the cell.
abbrev pub HasPartFault : MessageType → List ℕ → ElementFault → Type 0
HasPartFault kind.HandoverCommand part fault =
    (first second rest : List ℕ) × (length first ≡ 2) × (length second ≡ 3) × (part ≡ first ++ second ++ rest) × HasChanFault second fault
HasPartFault kind.ChannelRelease part fault = ⊥
HasPartFault kind.MeasurementReport part fault = ⊥
HasPartFault kind.HandoverFailure part fault = ⊥
HasPartFault kind.HandoverComplete part fault = ⊥
HasPartFault kind.PhysicalInformation part fault = ⊥

-- The octets have this fault: no octet, or another discriminator; no type, or a part that is cut; a type
-- that no message has; a bad element in the part. Memory is never refused.
abbrev pub HasRrFault : List ℕ → RrFault → Type 0
HasRrFault octets NotRr = (octets ≡ []) ⊎ ((d : ℕ) × (rest : List ℕ) × (octets ≡ d ∷ rest) × (d ≢ radio_resources))
HasRrFault octets Short = (octets ≡ radio_resources ∷ []) ⊎ ((k : MessageType) × (body : List ℕ) × (octets ≡ radio_resources ∷ type_of k ∷ body) × (length body < part_len k))
HasRrFault octets (UnknownType t) = (body : List ℕ) × (octets ≡ radio_resources ∷ t ∷ body) × ((k : MessageType) → t ≢ type_of k)
HasRrFault octets (Element fault) = (k : MessageType) × (part : List ℕ) × IsFramed k part octets × HasPartFault k part fault
HasRrFault octets NoMemory = ⊥
