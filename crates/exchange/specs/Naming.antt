-- The channel that a message on Abis names.
use Rattle.std.specs.Prelude.{ℕ}
use Rattle.channel_fsm.specs.declared.ChanId.{ChanId}
use Rattle.rsl_messages.specs.declared.message.ChanBits.{ChanBits}
use Rattle.rsl_messages.specs.declared.message.Rsl.{Rsl}
use Rattle.rsl_messages.specs.declared.message.Rsl.TheVariants.{DataRequest, DataIndication, ChannelActivation, ChannelActivationAck, ChannelActivationNack, ConnectionFailureIndication, HandoverDetection, MeasurementResult, RfChannelRelease, RfChannelReleaseAck}

-- the channel number, which each message has (TS 48.058 clause 9.3.1)
abbrev pub channel_number : {A : Type 0} → Rsl A → ChanBits
channel_number (DataRequest channel link layer3) = channel
channel_number (DataIndication channel link layer3) = channel
channel_number (ChannelActivation channel activation mode reference) = channel
channel_number (ChannelActivationAck channel frame) = channel
channel_number (ChannelActivationNack channel cause) = channel
channel_number (ConnectionFailureIndication channel cause) = channel
channel_number (HandoverDetection channel delay) = channel
channel_number (MeasurementResult channel number uplink power layer3) = channel
channel_number (RfChannelRelease channel) = channel
channel_number (RfChannelReleaseAck channel) = channel

-- The channel of a message from a TRX of a cell: the timeslot, or the half of it, that its channel number names.
abbrev pub chan_of : {A : Type 0} → ℕ → ℕ → Rsl A → ChanId
chan_of cell trx message = record { cell = cell; trx = trx; tn = (channel_number message).tn; sub = (channel_number message).sub }
