-- What comes of octets that a controller sends a TRX (TS 48.058 clause 8).
use Rattle.std.specs.Prelude.{◌≡◌, ℕ, true, ◌==◌, if◌then◌else◌, List, [], ◌∷◌, map, Option, Some, None}
use Rattle.rr_messages.specs.declared.message.Rr.{Rr}
use Rattle.rsl_messages.specs.declared.message.Rsl.{Rsl}
use Rattle.rsl_messages.specs.declared.message.Rsl.TheVariants.{DataRequest, DataIndication, ChannelActivation, ChannelActivationAck, ChannelActivationNack, ConnectionFailureIndication, HandoverDetection, MeasurementResult, RfChannelRelease, RfChannelReleaseAck}
use Rattle.rsl_messages.specs.Texts.{IsTextOf}
use Rattle.rsl_messages.specs.Values.{main_signalling}
use Rattle.rsl_messages.specs.Messages.{HasOctets}
use Rattle.bts_model.specs.declared.place.Place.{Place}
use Rattle.bts_model.specs.declared.answer.Answer.TheVariants.{ReleaseAck, Detection, Complete, Failure}
use Rattle.bts_model.specs.declared.answer.StationOut.{StationOut}
use Rattle.bts_model.specs.declared.station.Reaction.{Reaction}
use Rattle.bts_model.specs.declared.mobile.Response.{Response}
use Rattle.bts_model.specs.declared.mobile.Response.TheVariants.{Unheard, Returned, Arrived}
use Rattle.bts_model.specs.Names.{place_in}
use Rattle.bts_model.specs.World.{WorldState, slot_in, has_channel, is_in_use, with_slot}
use Rattle.bts_model.specs.Answers.{out_of}
use Rattle.bts_model.specs.Holds.{hold_of}
use Rattle.bts_model.specs.Stations.{at_activation, at_release}
use Rattle.bts_model.specs.Mobiles.{response_to, IsHeard}
use Rattle.bts_model.specs.Departures.{Outcome, silent, all_leave}

-- this is the world after it, and these are the messages
abbrev pub Gives : {A : Type 0} → Outcome → WorldState → List (StationOut A) → Type 0
Gives o w outs = (w ≡ o.world) × (outs ≡ map out_of o.sent)

-- what comes of a station's reaction: the channel changes, and the answer leaves
abbrev pub reacted : WorldState → Place → Reaction → Outcome
reacted w x r = all_leave (with_slot w x r.slot) x (r.answer ∷ [])

-- What is heard of the mobile on channel x. Where it arrives, the station of the target detects it (TS 44.018 clause
-- 3.4.4.2.2), and the mobile says there that it came; where it comes back, it says on x that it failed (3.4.4.4).
abbrev pub responded : WorldState → Place → Response → Outcome
responded w x Unheard = silent w
responded w x Returned = all_leave w x (Failure ∷ [])
responded w x (Arrived y) = all_leave w y (Detection ∷ Complete ∷ [])

-- what the mobile does to which a message comes on the main signalling channel
abbrev pub passed_on : WorldState → Place → ℕ → Option Rr → Outcome
passed_on w x link None = silent w
passed_on w x link (Some message) = if link == main_signalling then responded w x (response_to w.trxs w.slots x message) else silent w

-- what comes of CHANNEL ACTIVATION of channel x
abbrev pub activated : WorldState → Place → Option ℕ → Outcome
activated w x reference = reacted w x (at_activation (slot_in w.slots x) (is_in_use w.slots x) reference)

-- nothing comes of what is asked of a channel that the world lacks
abbrev pub at_channel : WorldState → Place → Outcome → Outcome
at_channel w x o = if has_channel w x then o else silent w

-- What comes of a message. A station is asked to activate or to release a channel, or to pass a message on to the mobile
-- there; what else may stand on Abis isn't for it.
abbrev pub Comes : {A : Type 0} → WorldState → ℕ → ℕ → ℕ → Rsl A → WorldState → List (StationOut A) → Type 0
Comes w k cell trx (DataRequest channel link layer3) w' outs =
    (heard : Option Rr) × IsHeard layer3 heard × Gives (at_channel w (place_in k cell trx channel) (passed_on w (place_in k cell trx channel) link heard)) w' outs
Comes w k cell trx (DataIndication channel link layer3) w' outs = Gives (silent w) w' outs
Comes w k cell trx (ChannelActivation channel activation mode reference) w' outs =
    Gives (at_channel w (place_in k cell trx channel) (activated w (place_in k cell trx channel) reference)) w' outs
Comes w k cell trx (ChannelActivationAck channel frame) w' outs = Gives (silent w) w' outs
Comes w k cell trx (ChannelActivationNack channel cause) w' outs = Gives (silent w) w' outs
Comes w k cell trx (ConnectionFailureIndication channel cause) w' outs = Gives (silent w) w' outs
Comes w k cell trx (HandoverDetection channel delay) w' outs = Gives (silent w) w' outs
Comes w k cell trx (MeasurementResult channel number uplink power layer3) w' outs = Gives (silent w) w' outs
Comes w k cell trx (RfChannelRelease channel) w' outs =
    Gives (at_channel w (place_in k cell trx channel) (reacted w (place_in k cell trx channel) (at_release (slot_in w.slots (place_in k cell trx channel))))) w' outs
Comes w k cell trx (RfChannelReleaseAck channel) w' outs = Gives (silent w) w' outs

-- the message that octets say to a station, if any
abbrev pub IsSaid : {A : Type 0} → List ℕ → Option (Rsl A) → Type 0
IsSaid octets (Some message) = IsTextOf message octets
IsSaid {A} octets None = (message : Rsl A) → IsTextOf message octets → ⊥

-- what comes of the message that octets say; nothing where they say none
abbrev pub ComesIf : {A : Type 0} → WorldState → ℕ → ℕ → ℕ → Option (Rsl A) → WorldState → List (StationOut A) → Type 0
ComesIf w k cell trx None w' outs = Gives (silent w) w' outs
ComesIf w k cell trx (Some message) w' outs = Comes w k cell trx message w' outs

-- what comes of octets
abbrev pub Steps : {A : Type 0} → WorldState → ℕ → ℕ → ℕ → List ℕ → WorldState → List (StationOut A) → Type 0
Steps {A} w k cell trx octets w' outs = (said : Option (Rsl A)) × IsSaid octets said × ComesIf w k cell trx said w' outs

-- Memory may be needed for a message that keeps octets, and to acknowledge a release at once. What else is sent follows
-- messages that keep octets.
abbrev pub NeedsMemory : {A : Type 0} → WorldState → ℕ → ℕ → ℕ → Rsl A → Type 0
NeedsMemory w k cell trx (DataRequest channel link layer3) = Unit {0}
NeedsMemory w k cell trx (DataIndication channel link layer3) = Unit {0}
NeedsMemory w k cell trx (ChannelActivation channel activation mode reference) = Unit {0}
NeedsMemory w k cell trx (ChannelActivationAck channel frame) = ⊥
NeedsMemory w k cell trx (ChannelActivationNack channel cause) = ⊥
NeedsMemory w k cell trx (ConnectionFailureIndication channel cause) = ⊥
NeedsMemory w k cell trx (HandoverDetection channel delay) = ⊥
NeedsMemory w k cell trx (MeasurementResult channel number uplink power layer3) = HasOctets {A = Unit} (MeasurementResult channel number uplink power layer3)
NeedsMemory w k cell trx (RfChannelRelease channel) = (has_channel w (place_in k cell trx channel) ≡ true) × (hold_of w.holds (place_in k cell trx channel) ReleaseAck ≡ None)
NeedsMemory w k cell trx (RfChannelReleaseAck channel) = ⊥

abbrev pub StepNeedsMemory : (A : Type 0) → WorldState → ℕ → ℕ → ℕ → List ℕ → Type 0
StepNeedsMemory A w k cell trx octets = (message : Rsl A) × IsTextOf message octets × NeedsMemory w k cell trx message
