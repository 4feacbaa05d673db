-- What holds of each kind of message, kind by kind.
use Rattle.std.proofs.Common.{◌≡◌, ℕ, ◌/◌, List, [], ◌∷◌, Option, Some, sym, ◌∙◌, eqb, ◌&&◌, find, inl, inr, refl}
use Rattle.octet_elements.specs.Elements.{Element}
use Rattle.octet_elements.specs.Lookup.{noted, values_in}
use Rattle.octet_elements.specs.Texts.{HeadsAreUnique}
use Rattle.rsl_messages.specs.Forms.{known}
use Rattle.rsl_messages.specs.Heads.{IsDiscriminator}
use Rattle.station_messages.specs.declared.head.MessageType.{MessageType}
use Rattle.station_messages.specs.declared.head.MessageType.TheVariants as type
use Rattle.station_messages.specs.declared.reading.MessageKind.{MessageKind}
use Rattle.station_messages.specs.declared.reading.MessageKind.TheVariants as kind
use Rattle.station_messages.specs.Heads.{Heads, IsHead}
use Rattle.station_messages.specs.Types.{type_head, head_said, head_codec}
use Rattle.station_messages.specs.Messages.{kind_head, said}
use Rattle.station_messages.specs.Texts.{codec}
use Rattle.station_messages.proofs.Unique.{Tells, heads_are_unique}

-- which of some kinds has half of its discriminator and its type
abbrev kind_at : {Kind : Type 0} → Heads Kind → List Kind → ℕ → ℕ → Option Kind
kind_at heads kinds half t = find (λ k. eqb half ((heads k).0 / 2) && eqb t (heads k).1) kinds

same_some : {X : Type 0} (x y : X) → Some x ≡ Some y → x ≡ y
same_some x y h = cc

-- HEADS OF STATIONS

types : List MessageType
types = type.DataIndication ∷ type.ErrorIndication ∷ type.EstablishConfirm ∷ type.EstablishIndication ∷ type.ReleaseConfirm ∷ type.ReleaseIndication ∷ type.UnitDataIndication ∷ type.ChannelActivationAck ∷ type.ChannelActivationNack ∷ type.ConnectionFailureIndication ∷ type.HandoverDetection ∷ type.MeasurementResult ∷ type.ModeModifyAck ∷ type.ModeModifyNack ∷ type.PhysicalContextConfirm ∷ type.PreprocessedMeasurementResult ∷ type.RfChannelReleaseAck ∷ type.TalkerDetection ∷ type.ListenerDetection ∷ []

type_found : (k : MessageType) (d t : ℕ) → IsHead type_head k d t → kind_at type_head types (d / 2) t ≡ Some k
unfolding types
type_found type.DataIndication d t h = λ i. kind_at type_head types (h.0 i) (h.1 i)
type_found type.ErrorIndication d t h = λ i. kind_at type_head types (h.0 i) (h.1 i)
type_found type.EstablishConfirm d t h = λ i. kind_at type_head types (h.0 i) (h.1 i)
type_found type.EstablishIndication d t h = λ i. kind_at type_head types (h.0 i) (h.1 i)
type_found type.ReleaseConfirm d t h = λ i. kind_at type_head types (h.0 i) (h.1 i)
type_found type.ReleaseIndication d t h = λ i. kind_at type_head types (h.0 i) (h.1 i)
type_found type.UnitDataIndication d t h = λ i. kind_at type_head types (h.0 i) (h.1 i)
type_found type.ChannelActivationAck d t h = λ i. kind_at type_head types (h.0 i) (h.1 i)
type_found type.ChannelActivationNack d t h = λ i. kind_at type_head types (h.0 i) (h.1 i)
type_found type.ConnectionFailureIndication d t h = λ i. kind_at type_head types (h.0 i) (h.1 i)
type_found type.HandoverDetection d t h = λ i. kind_at type_head types (h.0 i) (h.1 i)
type_found type.MeasurementResult d t h = λ i. kind_at type_head types (h.0 i) (h.1 i)
type_found type.ModeModifyAck d t h = λ i. kind_at type_head types (h.0 i) (h.1 i)
type_found type.ModeModifyNack d t h = λ i. kind_at type_head types (h.0 i) (h.1 i)
type_found type.PhysicalContextConfirm d t h = λ i. kind_at type_head types (h.0 i) (h.1 i)
type_found type.PreprocessedMeasurementResult d t h = λ i. kind_at type_head types (h.0 i) (h.1 i)
type_found type.RfChannelReleaseAck d t h = λ i. kind_at type_head types (h.0 i) (h.1 i)
type_found type.TalkerDetection d t h = λ i. kind_at type_head types (h.0 i) (h.1 i)
type_found type.ListenerDetection d t h = λ i. kind_at type_head types (h.0 i) (h.1 i)

type_discriminates : (k : MessageType) (d t : ℕ) → IsHead type_head k d t → IsDiscriminator d
type_discriminates type.DataIndication d t h = inl h.0
type_discriminates type.ErrorIndication d t h = inl h.0
type_discriminates type.EstablishConfirm d t h = inl h.0
type_discriminates type.EstablishIndication d t h = inl h.0
type_discriminates type.ReleaseConfirm d t h = inl h.0
type_discriminates type.ReleaseIndication d t h = inl h.0
type_discriminates type.UnitDataIndication d t h = inl h.0
type_discriminates type.ChannelActivationAck d t h = inr h.0
type_discriminates type.ChannelActivationNack d t h = inr h.0
type_discriminates type.ConnectionFailureIndication d t h = inr h.0
type_discriminates type.HandoverDetection d t h = inr h.0
type_discriminates type.MeasurementResult d t h = inr h.0
type_discriminates type.ModeModifyAck d t h = inr h.0
type_discriminates type.ModeModifyNack d t h = inr h.0
type_discriminates type.PhysicalContextConfirm d t h = inr h.0
type_discriminates type.PreprocessedMeasurementResult d t h = inr h.0
type_discriminates type.RfChannelReleaseAck d t h = inr h.0
type_discriminates type.TalkerDetection d t h = inr h.0
type_discriminates type.ListenerDetection d t h = inr h.0

pub types_are_told : Tells type_head
types_are_told = record {
  one = λ j k d t h g. same_some j k (sym (type_found j d t h) ∙ type_found k d t g);
  discriminates = type_discriminates;
}

pub type_heads : HeadsAreUnique head_codec
type_heads = heads_are_unique type_head head_said types_are_told

-- MESSAGES

kinds : List MessageKind
kinds = kind.ReleaseIndication ∷ kind.DeactivateSacch ∷ []

kind_found : (k : MessageKind) (d t : ℕ) → IsHead kind_head k d t → kind_at kind_head kinds (d / 2) t ≡ Some k
unfolding kinds
kind_found kind.ReleaseIndication d t h = λ i. kind_at kind_head kinds (h.0 i) (h.1 i)
kind_found kind.DeactivateSacch d t h = λ i. kind_at kind_head kinds (h.0 i) (h.1 i)

kind_discriminates : (k : MessageKind) (d t : ℕ) → IsHead kind_head k d t → IsDiscriminator d
kind_discriminates kind.ReleaseIndication d t h = inl h.0
kind_discriminates kind.DeactivateSacch d t h = inr h.0

pub kinds_are_told : Tells kind_head
kinds_are_told = record {
  one = λ j k d t h g. same_some j k (sym (kind_found j d t h) ∙ kind_found k d t g);
  discriminates = kind_discriminates;
}

pub kind_heads : HeadsAreUnique codec
kind_heads = heads_are_unique kind_head said kinds_are_told

-- what is kept says what the elements say
pub all_noted : (k : MessageKind) (es : List Element) → said k (noted known es) ≡ said k (values_in es)
all_noted kind.ReleaseIndication es = refl
all_noted kind.DeactivateSacch es = refl
