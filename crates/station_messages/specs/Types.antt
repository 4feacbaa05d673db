-- What a station sends about a channel: which message it is, the channel, and whom it is for (TS 48.058 clauses 8.3 and 8.4).
use Rattle.std.specs.Prelude.{ℕ, ◌==◌, if◌then◌else◌, List, [], ◌∷◌, Option, Some, None, Result, Ok}
use Rattle.octet_elements.specs.Lookup.{Lookup}
use Rattle.octet_elements.specs.Rows.{◌>>=◌}
use Rattle.octet_elements.specs.Texts.{Codec}
use Rattle.octet_elements.specs.declared.values.ValueFault.{ValueFault}
use Rattle.rsl_messages.specs.declared.fault.RslFault.{RslFault}
use Rattle.rsl_messages.specs.Forms.{LINK_IDENTIFIER, LAYER3}
use Rattle.rsl_messages.specs.Messages.{channel_number}
use Rattle.station_messages.specs.declared.head.Head.{Head}
use Rattle.station_messages.specs.declared.head.MessageType.{MessageType}
use Rattle.station_messages.specs.declared.head.MessageType.TheVariants.{DataIndication, ErrorIndication, EstablishConfirm, EstablishIndication, ReleaseConfirm, ReleaseIndication, UnitDataIndication, ChannelActivationAck, ChannelActivationNack, ConnectionFailureIndication, HandoverDetection, MeasurementResult, ModeModifyAck, ModeModifyNack, PhysicalContextConfirm, PreprocessedMeasurementResult, RfChannelReleaseAck, TalkerDetection, ListenerDetection}
use Rattle.station_messages.specs.Heads.{codec_of}

-- discriminator and type (clauses 9.1 and 9.2)
abbrev pub type_head : MessageType → ℕ × ℕ
type_head DataIndication = (0x03, 0x02)
type_head ErrorIndication = (0x02, 0x03)
type_head EstablishConfirm = (0x02, 0x05)
type_head EstablishIndication = (0x02, 0x06)
type_head ReleaseConfirm = (0x02, 0x08)
type_head ReleaseIndication = (0x02, 0x09)
type_head UnitDataIndication = (0x03, 0x0B)
type_head ChannelActivationAck = (0x08, 0x22)
type_head ChannelActivationNack = (0x08, 0x23)
type_head ConnectionFailureIndication = (0x08, 0x24)
type_head HandoverDetection = (0x08, 0x27)
type_head MeasurementResult = (0x08, 0x28)
type_head ModeModifyAck = (0x08, 0x2A)
type_head ModeModifyNack = (0x08, 0x2B)
type_head PhysicalContextConfirm = (0x08, 0x2D)
type_head PreprocessedMeasurementResult = (0x08, 0x32)
type_head RfChannelReleaseAck = (0x08, 0x33)
type_head TalkerDetection = (0x08, 0x35)
type_head ListenerDetection = (0x08, 0x36)

-- the first octet of an element
abbrev pub first_octet : Option (List ℕ) → Option ℕ
first_octet None = None
first_octet (Some []) = None
first_octet (Some (o ∷ os)) = Some o

-- the type of the radio resource message that L3 information begins (TS 44.018 clauses 10.2 to 10.4)
abbrev pub rr_type : Option (List ℕ) → Option ℕ
rr_type None = None
rr_type (Some []) = None
rr_type (Some (d ∷ [])) = None
rr_type (Some (d ∷ t ∷ rest)) = if d == 6 then Some t else None

-- the channel number (clause 9.3.1), which each of them has; the link identifier (9.3.2) and the L3 information (9.3.11), which
-- some have
abbrev pub head_said : MessageType → Lookup → Result Head ValueFault
head_said message found = channel_number.read found >>= λ channel. Ok (record { message = message; channel = channel; link = first_octet (found.first LINK_IDENTIFIER); rr_type = rr_type (found.first LAYER3) })

abbrev pub head_codec : Codec MessageType Head RslFault
head_codec = codec_of type_head head_said
