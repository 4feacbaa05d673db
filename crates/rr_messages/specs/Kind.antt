-- Message types (TS 44.018 section 10.4), and how long the mandatory part of each is.
use Rattle.std.specs.Prelude.{ℕ}
use Rattle.rr_messages.specs.declared.kind.MessageType.{MessageType}
use Rattle.rr_messages.specs.declared.kind.MessageType.TheVariants.{ChannelRelease, MeasurementReport, HandoverFailure, HandoverCommand, HandoverComplete, PhysicalInformation}

-- the octet of a message type
abbrev pub type_of : MessageType → ℕ
type_of ChannelRelease = 0x0D
type_of MeasurementReport = 0x15
type_of HandoverFailure = 0x28
type_of HandoverCommand = 0x2B
type_of HandoverComplete = 0x2C
type_of PhysicalInformation = 0x2D

-- how many octets the mandatory part has
abbrev pub part_len : MessageType → ℕ
part_len ChannelRelease = 1
part_len MeasurementReport = 16
part_len HandoverFailure = 1
part_len HandoverCommand = 7
part_len HandoverComplete = 1
part_len PhysicalInformation = 1
