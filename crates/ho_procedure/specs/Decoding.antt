-- What the octets of an input are.
use Rattle.std.specs.Prelude.{◌≡◌, ◌≢◌, ℕ, ◌==◌, if◌then◌else◌, List, Option, Some, None}
use Rattle.rr_messages.specs.declared.message.Rr.{Rr}
use Rattle.rr_messages.specs.declared.fault.RrFault.{RrFault}
use Rattle.rr_messages.specs.Rr.{IsRrText, HasRrFault}
use Rattle.rsl_messages.specs.declared.message.Rsl.{Rsl}
use Rattle.rsl_messages.specs.declared.message.Rsl.TheVariants.{DataRequest, DataIndication, ChannelActivation, ChannelActivationAck, ChannelActivationNack, ConnectionFailureIndication, HandoverDetection, MeasurementResult, RfChannelRelease, RfChannelReleaseAck}
use Rattle.rsl_messages.specs.declared.fault.RslFault.TheVariants as rsl_fault
use Rattle.rsl_messages.specs.Texts as abis
use Rattle.rsl_messages.specs.Values.{main_signalling}
use Rattle.bssmap_messages.specs.declared.fault.BssmapFault.TheVariants as bssmap_fault
use Rattle.bssmap_messages.specs.Texts as interface_a
use Rattle.exchange.specs.declared.Link.{Link}
use Rattle.exchange.specs.declared.Link.TheVariants as link
use Rattle.exchange.specs.declared.Bad.{Bad}
use Rattle.exchange.specs.declared.Bad.TheVariants as bad
use Rattle.ho_procedure.specs.declared.decoding.Unreadable.{Unreadable}
use Rattle.ho_procedure.specs.declared.decoding.Unreadable.TheVariants as unreadable

-- Where a message on Abis has a radio resource message of the mobile inside: a DATA INDICATION (TS 48.058 clause 8.3.2) on
-- the main signalling channel, SAPI 0 (clause 9.3.2), and a MEASUREMENT RESULT (clause 8.4.8) with L3 information. What
-- comes on another link isn't read.
abbrev pub text_inside : {A : Type 0} → Rsl A → Option (List ℕ)
text_inside (DataIndication channel link layer3) = if link == main_signalling then Some layer3 else None
text_inside (MeasurementResult channel number uplink power layer3) = layer3
text_inside (DataRequest channel link layer3) = None
text_inside (ChannelActivation channel activation mode reference) = None
text_inside (ChannelActivationAck channel frame) = None
text_inside (ChannelActivationNack channel cause) = None
text_inside (ConnectionFailureIndication channel cause) = None
text_inside (HandoverDetection channel delay) = None
text_inside (RfChannelRelease channel) = None
text_inside (RfChannelReleaseAck channel) = None

-- this is the message inside, where there is a text of one
abbrev pub IsInside : Option (List ℕ) → Option Rr → Type 0
IsInside None rr = rr ≡ None
IsInside (Some text) None = ⊥
IsInside (Some text) (Some v) = IsRrText v text

-- the text, where there is one, has this fault
abbrev pub IsFaultOf : Option (List ℕ) → RrFault → Type 0
IsFaultOf None f = ⊥
IsFaultOf (Some text) f = HasRrFault text f

-- the octets are a text of the message on Abis, with this radio resource message inside
abbrev pub IsAbis : {A : Type 0} → List ℕ → Rsl A → Option Rr → Type 0
IsAbis octets message rr = abis.IsTextOf message octets × IsInside (text_inside message) rr

-- the octets are a text of a message on Abis, and the text inside has this fault
abbrev pub HasFaultInside : (A : Type 0) → List ℕ → RrFault → Type 0
HasFaultInside A octets f = (message : Rsl A) × abis.IsTextOf message octets × IsFaultOf (text_inside message) f

-- The octets of a message on Abis can't be read, where memory isn't refused: they have this fault, or the text inside has.
abbrev pub IsUnreadableAbis : (A : Type 0) → List ℕ → Link → Bad → Type 0
IsUnreadableAbis A octets link.Abis (bad.Rsl f) = (f ≢ rsl_fault.NoMemory) × abis.HasFault A octets f
IsUnreadableAbis A octets link.Rr (bad.Rr f) = HasFaultInside A octets f
IsUnreadableAbis A octets link.Abis (bad.Bssmap f) = ⊥
IsUnreadableAbis A octets link.Abis (bad.Rr f) = ⊥
IsUnreadableAbis A octets link.A b = ⊥
IsUnreadableAbis A octets link.Rr (bad.Rsl f) = ⊥
IsUnreadableAbis A octets link.Rr (bad.Bssmap f) = ⊥

-- Octets weren't read, by what it means that they can't be, and that memory was refused.
abbrev pub IsUnreadable : (Link → Bad → Type 0) → Type 0 → Unreadable → Type 0
IsUnreadable CantBeRead MayRefuse (unreadable.Undecoded l b) = CantBeRead l b
IsUnreadable CantBeRead MayRefuse unreadable.NoMemory = MayRefuse

-- The octets of a message on A can't be read, where memory isn't refused: they have this fault.
abbrev pub IsUnreadableA : (A : Type 0) → List ℕ → Link → Bad → Type 0
IsUnreadableA A octets link.A (bad.Bssmap f) = (f ≢ bssmap_fault.NoMemory) × interface_a.HasFault A octets f
IsUnreadableA A octets link.A (bad.Rsl f) = ⊥
IsUnreadableA A octets link.A (bad.Rr f) = ⊥
IsUnreadableA A octets link.Abis b = ⊥
IsUnreadableA A octets link.Rr b = ⊥
