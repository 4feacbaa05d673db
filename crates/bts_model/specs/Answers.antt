-- The messages by which a station gives an answer (TS 48.058 clause 8).
use Rattle.std.specs.Prelude.{ℕ, List, Some}
use Rattle.rr_elements.specs.RrCause.{normal_event, abnormal_release}
use Rattle.rr_messages.specs.declared.message.Rr.{Rr}
use Rattle.rr_messages.specs.declared.message.Rr.TheVariants.{HandoverComplete, HandoverFailure}
use Rattle.rr_messages.specs.Rr.{rr_text}
use Rattle.rsl_messages.specs.declared.message.ChanBits.{ChanBits}
use Rattle.rsl_messages.specs.declared.message.Rsl.TheVariants.{DataIndication, ChannelActivationAck, ChannelActivationNack, HandoverDetection, RfChannelReleaseAck}
use Rattle.rsl_messages.specs.Texts.{canonical_text}
use Rattle.rsl_messages.specs.Values.{main_signalling, equipment_failure}
use Rattle.bts_model.specs.declared.place.Place.{Place}
use Rattle.bts_model.specs.declared.answer.Answer.{Answer}
use Rattle.bts_model.specs.declared.answer.Answer.TheVariants.{ActivationAck, ActivationNack, ReleaseAck, Detection, Complete, Failure}
use Rattle.bts_model.specs.declared.answer.StationOut.{StationOut}

-- DATA INDICATION on the main signalling channel, SAPI 0, with a message of the mobile (clauses 8.3.2 and 9.3.2)
abbrev pub indication_octets : ChanBits → Rr → List ℕ
indication_octets channel message = canonical_text {A = Unit} (DataIndication channel main_signalling (rr_text message))

-- The octets of an answer: an activation is acknowledged with frame number 0 (clause 8.4.2), and refused with cause
-- 'equipment failure' (clauses 8.4.3 and 9.3.26); a handover is detected with access delay 0 (clause 8.4.7), complete
-- in a normal event, and failed in an abnormal release (TS 44.018 clauses 9.1.16 and 9.1.17).
abbrev pub octets_of : ChanBits → Answer → List ℕ
octets_of channel ActivationAck = canonical_text {A = Unit} (ChannelActivationAck channel 0)
octets_of channel ActivationNack = canonical_text {A = Unit} (ChannelActivationNack channel equipment_failure)
octets_of channel ReleaseAck = canonical_text {A = Unit} (RfChannelReleaseAck channel)
octets_of channel Detection = canonical_text {A = Unit} (HandoverDetection channel (Some 0))
octets_of channel Complete = indication_octets channel (HandoverComplete (record { 0 = normal_event }))
octets_of channel Failure = indication_octets channel (HandoverFailure (record { 0 = abnormal_release }))

-- octets about a channel come from the channel's TRX
abbrev pub out_of : {A : Type 0} → Place × List ℕ → StationOut A
out_of p = record { controller = p.0.controller; cell = p.0.channel.cell; trx = p.0.channel.trx; bytes = p.1 }
