-- The messages: head, and the rows of their elements in the order in which they are read and written.
use Rattle.std.specs.Prelude.{◌⊎◌, ℕ, ◌<◌, List, [], ◌∷◌, length, Result, Ok, IsSome, IfSome, Option}
use Rattle.octet_elements.specs.Elements.{Element}
use Rattle.octet_elements.specs.Lookup.{Lookup}
use Rattle.octet_elements.specs.Rows.{Row, Entry, entry, ◌>>=◌, octet, optional_octet, u16_be, octets, optional_octets, any_octets, ◌▸◌}
use Rattle.octet_elements.specs.declared.values.ValueFault.{ValueFault}
use Rattle.rsl_messages.specs.declared.head.MessageKind.{MessageKind}
use Rattle.rsl_messages.specs.declared.head.MessageKind.TheVariants as kind
use Rattle.rsl_messages.specs.declared.message.ChanBits.{ChanBits}
use Rattle.rsl_messages.specs.declared.message.Rsl.{Rsl}
use Rattle.rsl_messages.specs.declared.message.Rsl.TheVariants.{DataRequest, DataIndication, ChannelActivation, ChannelActivationAck, ChannelActivationNack, ConnectionFailureIndication, HandoverDetection, MeasurementResult, RfChannelRelease, RfChannelReleaseAck}
use Rattle.rsl_messages.specs.Forms.{CHANNEL_NUMBER, LINK_IDENTIFIER, ACTIVATION_TYPE, POWER, CHANNEL_MODE, FRAME_NUMBER, HANDOVER_REFERENCE, LAYER3, ACCESS_DELAY, UPLINK_MEASUREMENTS, CAUSE, RESULT_NUMBER}
use Rattle.rsl_messages.specs.Values.{channel_in, channel_octet}

-- discriminator and type as they are written (clauses 9.1 and 9.2)
abbrev pub head_of : MessageKind → ℕ × ℕ
head_of kind.DataRequest = (0x03, 0x01)
head_of kind.DataIndication = (0x03, 0x02)
head_of kind.ChannelActivation = (0x08, 0x21)
head_of kind.ChannelActivationAck = (0x08, 0x22)
head_of kind.ChannelActivationNack = (0x08, 0x23)
head_of kind.ConnectionFailureIndication = (0x08, 0x24)
head_of kind.HandoverDetection = (0x08, 0x27)
head_of kind.MeasurementResult = (0x08, 0x28)
head_of kind.RfChannelRelease = (0x08, 0x2E)
head_of kind.RfChannelReleaseAck = (0x08, 0x33)

-- Channel number (clause 9.3.1), the first element of each message, and the only one of RF CHANNEL RELEASE
-- (clause 8.4.14) and RF CHANNEL RELEASE ACKNOWLEDGE (8.4.19).
abbrev pub channel_number : Row ChanBits
channel_number = record { read = λ found. channel_in (found.first CHANNEL_NUMBER); written = λ channel. (CHANNEL_NUMBER, channel_octet channel ∷ []) ∷ [] }

-- DATA REQUEST (clause 8.3.1) and DATA INDICATION (8.3.2): link identifier (9.3.2), L3 information (9.3.11).
abbrev pub data_rows : Row (ChanBits × (ℕ × List ℕ))
data_rows = channel_number ▸ octet LINK_IDENTIFIER ▸ octets LAYER3

-- CHANNEL ACTIVATION (clause 8.4.1): activation type (9.3.3), channel mode (9.3.6) and, for a handover,
-- handover reference (9.3.9).
abbrev pub activation_rows : Row (ChanBits × (ℕ × (List ℕ × Option ℕ)))
activation_rows = channel_number ▸ octet ACTIVATION_TYPE ▸ octets CHANNEL_MODE ▸ optional_octet HANDOVER_REFERENCE

-- CHANNEL ACTIVATION ACKNOWLEDGE (clause 8.4.2): frame number (9.3.8).
abbrev pub activation_ack_rows : Row (ChanBits × ℕ)
activation_ack_rows = channel_number ▸ u16_be FRAME_NUMBER

-- CHANNEL ACTIVATION NEGATIVE ACKNOWLEDGE (clause 8.4.3) and CONNECTION FAILURE INDICATION (8.4.4): cause
-- (9.3.26), of which the first octet counts.
abbrev pub cause_rows : Row (ChanBits × ℕ)
cause_rows = channel_number ▸ octet CAUSE

-- HANDOVER DETECTION (clause 8.4.7): access delay (9.3.17), where it is known.
abbrev pub detection_rows : Row (ChanBits × Option ℕ)
detection_rows = channel_number ▸ optional_octet ACCESS_DELAY

-- MEASUREMENT RESULT (clause 8.4.8): measurement result number (9.3.27), uplink measurements (9.3.25), base
-- station power (9.3.4) and, where the mobile reported, L3 information (9.3.11).
abbrev pub measurement_rows : Row (ChanBits × (ℕ × (List ℕ × (ℕ × Option (List ℕ)))))
measurement_rows = channel_number ▸ octet RESULT_NUMBER ▸ any_octets UPLINK_MEASUREMENTS ▸ octet POWER ▸ optional_octets LAYER3

-- the message that elements say, or the first fault in the order of its rows
abbrev pub Said : Type 0 → Type 0
Said A = Result (Rsl A) ValueFault

abbrev pub said : {A : Type 0} → MessageKind → Lookup → Said A
said kind.DataRequest found = data_rows.read found >>= λ (channel, (link, layer3)). Ok (DataRequest channel link layer3)
said kind.DataIndication found = data_rows.read found >>= λ (channel, (link, layer3)). Ok (DataIndication channel link layer3)
said kind.ChannelActivation found = activation_rows.read found >>= λ (channel, (activation, (mode, reference))). Ok (ChannelActivation channel activation mode reference)
said kind.ChannelActivationAck found = activation_ack_rows.read found >>= λ (channel, frame). Ok (ChannelActivationAck channel frame)
said kind.ChannelActivationNack found = cause_rows.read found >>= λ (channel, cause). Ok (ChannelActivationNack channel cause)
said kind.ConnectionFailureIndication found = cause_rows.read found >>= λ (channel, cause). Ok (ConnectionFailureIndication channel cause)
said kind.HandoverDetection found = detection_rows.read found >>= λ (channel, delay). Ok (HandoverDetection channel delay)
said kind.MeasurementResult found = measurement_rows.read found >>= λ (channel, (number, (uplink, (power, layer3)))). Ok (MeasurementResult channel number uplink power layer3)
said kind.RfChannelRelease found = channel_number.read found >>= λ channel. Ok (RfChannelRelease channel)
said kind.RfChannelReleaseAck found = channel_number.read found >>= λ channel. Ok (RfChannelReleaseAck channel)

-- The messages: which one it is and its elements; an octet list that isn't empty, for which reading it may ask for
-- memory; and whether its fields can be said: a timeslot below 8, a mode of 1 to 255 octets, uplink measurements of at
-- most 255, a layer 3 message of one octet at least.
abbrev pub entry_of : {A : Type 0} → Rsl A → Entry MessageKind
entry_of (DataRequest channel link layer3) = entry kind.DataRequest (data_rows.written (channel, (link, layer3)))
    (0 < length layer3) ((channel.tn < 8) × (0 < length layer3))
entry_of (DataIndication channel link layer3) = entry kind.DataIndication (data_rows.written (channel, (link, layer3)))
    (0 < length layer3) ((channel.tn < 8) × (0 < length layer3))
entry_of (ChannelActivation channel activation mode reference) = entry kind.ChannelActivation (activation_rows.written (channel, (activation, (mode, reference))))
    (0 < length mode) ((channel.tn < 8) × (0 < length mode) × (length mode < 256))
entry_of (ChannelActivationAck channel frame) = entry kind.ChannelActivationAck (activation_ack_rows.written (channel, frame))
    ⊥ (channel.tn < 8)
entry_of (ChannelActivationNack channel cause) = entry kind.ChannelActivationNack (cause_rows.written (channel, cause))
    ⊥ (channel.tn < 8)
entry_of (ConnectionFailureIndication channel cause) = entry kind.ConnectionFailureIndication (cause_rows.written (channel, cause))
    ⊥ (channel.tn < 8)
entry_of (HandoverDetection channel delay) = entry kind.HandoverDetection (detection_rows.written (channel, delay))
    ⊥ (channel.tn < 8)
entry_of (MeasurementResult channel number uplink power layer3) = entry kind.MeasurementResult (measurement_rows.written (channel, (number, (uplink, (power, layer3)))))
    ((0 < length uplink) ⊎ IsSome layer3) ((channel.tn < 8) × (length uplink < 256) × IfSome layer3 (λ l. 0 < length l))
entry_of (RfChannelRelease channel) = entry kind.RfChannelRelease (channel_number.written channel) ⊥ (channel.tn < 8)
entry_of (RfChannelReleaseAck channel) = entry kind.RfChannelReleaseAck (channel_number.written channel)
    ⊥ (channel.tn < 8)

abbrev pub kind_of : {A : Type 0} → Rsl A → MessageKind
kind_of v = (entry_of v).kind

abbrev pub elements_of : {A : Type 0} → Rsl A → List Element
elements_of v = (entry_of v).elements

abbrev pub HasOctets : {A : Type 0} → Rsl A → Type 0
HasOctets v = (entry_of v).Keeps

abbrev pub CanBeSaid : {A : Type 0} → Rsl A → Type 0
CanBeSaid v = (entry_of v).CanBeSaid
