-- What the rows of a channel hear in a message of its station (docs/LINKS.md). Ours, of no standard.
use Rattle.std.specs.Prelude.{ℕ, ◌/◌, ◌%◌, Bool, false, ◌==◌, Option, Some, None, if◌then◌else◌, ◌&&◌}
use Rattle.channel_fsm.specs.declared.ChanId.{ChanId}
use Rattle.link_tables.specs.declared.Heard.{Heard}
use Rattle.link_tables.specs.declared.Heard.TheVariants as heard
use Rattle.rsl_messages.specs.declared.message.ChanBits.{ChanBits}
use Rattle.station_messages.specs.declared.head.Head.{Head}
use Rattle.station_messages.specs.declared.head.MessageType.{MessageType}
use Rattle.station_messages.specs.declared.head.MessageType.TheVariants.{DataIndication, ErrorIndication, EstablishConfirm, EstablishIndication, ReleaseConfirm, ReleaseIndication, UnitDataIndication, ChannelActivationAck, ChannelActivationNack, ConnectionFailureIndication, HandoverDetection, MeasurementResult, ModeModifyAck, ModeModifyNack, PhysicalContextConfirm, PreprocessedMeasurementResult, RfChannelReleaseAck, TalkerDetection, ListenerDetection}
use Rattle.link_machine.specs.declared.stations.Said.{Said}

-- types of radio resource messages (TS 44.018 clause 10.4)
abbrev pub HANDOVER_FAILURE : ℕ
HANDOVER_FAILURE = 0x28

abbrev pub HANDOVER_COMPLETE : ℕ
HANDOVER_COMPLETE = 0x2C

-- an octet is there, and is this one
abbrev pub has : Option ℕ → ℕ → Bool
has None n = false
has (Some m) n = m == n

-- the main signalling channel with SAPI 0, of any priority (TS 48.058 clause 9.3.2): bits 5 and 4 aside the octet is 0
abbrev pub is_main_signalling : Option ℕ → Bool
is_main_signalling None = false
is_main_signalling (Some link) = (link / 32 == 0) && (link % 8 == 0)

-- on its main signalling channel the mobile says this
abbrev pub says : Head → ℕ → Bool
says head t = is_main_signalling head.link && has head.rr_type t

-- HANDOVER COMPLETE, HANDOVER FAILURE, or anything else
abbrev pub said_in_data : Head → Heard
said_in_data head = if says head HANDOVER_COMPLETE then heard.HandoverComplete else if says head HANDOVER_FAILURE then heard.HandoverFailure else heard.DataIndication

-- what the rows of a channel hear, where any does
abbrev pub heard_by : Head → MessageType → Option Heard
heard_by head DataIndication = Some (said_in_data head)
heard_by head ErrorIndication = None
heard_by head EstablishConfirm = None
heard_by head EstablishIndication = Some heard.EstablishIndication
heard_by head ReleaseConfirm = None
heard_by head ReleaseIndication = if is_main_signalling head.link then Some heard.ReleaseIndication else None
heard_by head UnitDataIndication = None
heard_by head ChannelActivationAck = Some heard.ActivationAck
heard_by head ChannelActivationNack = Some heard.ActivationNack
heard_by head ConnectionFailureIndication = Some heard.ConnectionFailure
heard_by head HandoverDetection = Some heard.HandoverDetection
heard_by head MeasurementResult = Some heard.MeasurementResult
heard_by head ModeModifyAck = None
heard_by head ModeModifyNack = None
heard_by head PhysicalContextConfirm = None
heard_by head PreprocessedMeasurementResult = None
heard_by head RfChannelReleaseAck = Some heard.ReleaseAck
heard_by head TalkerDetection = None
heard_by head ListenerDetection = None

-- the channel of a TRX that a message names (TS 48.058 clause 9.3.1)
abbrev pub chan_at : ℕ → ℕ → ChanBits → ChanId
chan_at cell trx bits = record { cell = cell; trx = trx; tn = bits.tn; sub = bits.sub }

-- what a message of a TRX says to a channel
abbrev pub said_by : ℕ → ℕ → Head → Said
said_by cell trx head = record {
  chan = chan_at cell trx head.channel;
  heard = heard_by head head.message;
}
