-- Which octets are the text of a message, what is wrong with all others, and which text is written (TS 48.058 clause 9).
use Rattle.std.specs.Prelude.{◌↔◌, ℕ, List, ◌∷◌}
use Rattle.octet_elements.specs.Elements.{all_octets}
use Rattle.octet_elements.specs.Texts.{Codec}
use Rattle.octet_elements.specs.Texts as texts
use Rattle.rsl_messages.specs.declared.fault.RslFault.{RslFault}
use Rattle.rsl_messages.specs.Forms.{abis}
use Rattle.station_messages.specs.declared.reading.MessageKind.{MessageKind}
use Rattle.station_messages.specs.declared.message.StationMessage.{StationMessage}
use Rattle.station_messages.specs.Heads.{codec_of}
use Rattle.station_messages.specs.Messages.{kind_head, said, kind_of, elements_of, CanBeSaid}

abbrev pub codec : Codec MessageKind StationMessage RslFault
codec = codec_of kind_head said

-- the octets are a text of the message
abbrev pub IsTextOf : StationMessage → List ℕ → Type 0
IsTextOf v octets = texts.IsTextOf codec v octets

-- the octets have this first fault
abbrev pub HasFault : List ℕ → RslFault → Type 0
HasFault octets f = texts.HasFault codec octets f

-- The canonical text: the head and the elements as they are written.
abbrev pub canonical_text : StationMessage → List ℕ
canonical_text v = (kind_head (kind_of v)).0 ∷ (kind_head (kind_of v)).1 ∷ all_octets abis (elements_of v)

-- The message has a canonical text.
abbrev pub HasCanonical : StationMessage → Type 0
HasCanonical v = IsTextOf v (canonical_text v)

-- Just the messages whose fields can be said have a canonical text.
abbrev pub CanonicalIsText : Type 0
CanonicalIsText = (v : StationMessage) → CanBeSaid v ↔ HasCanonical v
