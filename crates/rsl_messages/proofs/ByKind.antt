-- What holds of each kind of message, kind by kind.
use Rattle.std.proofs.Common.{◌≡◌, ℕ, ◌/◌, List, [], ◌∷◌, Option, Some, refl, eqb, ◌&&◌, find, inl, inr}
use Rattle.octet_elements.specs.Elements.{Element}
use Rattle.octet_elements.specs.Lookup.{noted, values_in}
use Rattle.rsl_messages.specs.declared.head.MessageKind.{MessageKind}
use Rattle.rsl_messages.specs.declared.head.MessageKind.TheVariants as kind
use Rattle.rsl_messages.specs.Forms.{known}
use Rattle.rsl_messages.specs.Heads.{IsDiscriminator, IsHead}
use Rattle.rsl_messages.specs.Messages.{head_of, said}

kinds : List MessageKind
kinds = kind.DataRequest ∷ kind.DataIndication ∷ kind.ChannelActivation ∷ kind.ChannelActivationAck ∷ kind.ChannelActivationNack ∷ kind.ConnectionFailureIndication ∷ kind.HandoverDetection ∷ kind.MeasurementResult ∷ kind.RfChannelRelease ∷ kind.RfChannelReleaseAck ∷ []

-- which message has half of its discriminator and its type
pub kind_at : ℕ → ℕ → Option MessageKind
kind_at half t = find (λ k. eqb half ((head_of k).0 / 2) && eqb t (head_of k).1) kinds

pub found_at : (k : MessageKind) (d t : ℕ) → IsHead k d t → kind_at (d / 2) t ≡ Some k
unfolding kind_at kinds
found_at kind.DataRequest d t h = λ i. kind_at (h.0 i) (h.1 i)
found_at kind.DataIndication d t h = λ i. kind_at (h.0 i) (h.1 i)
found_at kind.ChannelActivation d t h = λ i. kind_at (h.0 i) (h.1 i)
found_at kind.ChannelActivationAck d t h = λ i. kind_at (h.0 i) (h.1 i)
found_at kind.ChannelActivationNack d t h = λ i. kind_at (h.0 i) (h.1 i)
found_at kind.ConnectionFailureIndication d t h = λ i. kind_at (h.0 i) (h.1 i)
found_at kind.HandoverDetection d t h = λ i. kind_at (h.0 i) (h.1 i)
found_at kind.MeasurementResult d t h = λ i. kind_at (h.0 i) (h.1 i)
found_at kind.RfChannelRelease d t h = λ i. kind_at (h.0 i) (h.1 i)
found_at kind.RfChannelReleaseAck d t h = λ i. kind_at (h.0 i) (h.1 i)

-- its discriminator is one of the two
pub discriminates : (k : MessageKind) (d t : ℕ) → IsHead k d t → IsDiscriminator d
discriminates kind.DataRequest d t h = inl h.0
discriminates kind.DataIndication d t h = inl h.0
discriminates kind.ChannelActivation d t h = inr h.0
discriminates kind.ChannelActivationAck d t h = inr h.0
discriminates kind.ChannelActivationNack d t h = inr h.0
discriminates kind.ConnectionFailureIndication d t h = inr h.0
discriminates kind.HandoverDetection d t h = inr h.0
discriminates kind.MeasurementResult d t h = inr h.0
discriminates kind.RfChannelRelease d t h = inr h.0
discriminates kind.RfChannelReleaseAck d t h = inr h.0

-- what is kept says what the elements say
pub all_noted : {A : Type 0} (k : MessageKind) (es : List Element) → said {A = A} k (noted known es) ≡ said k (values_in es)
all_noted kind.DataRequest es = refl
all_noted kind.DataIndication es = refl
all_noted kind.ChannelActivation es = refl
all_noted kind.ChannelActivationAck es = refl
all_noted kind.ChannelActivationNack es = refl
all_noted kind.ConnectionFailureIndication es = refl
all_noted kind.HandoverDetection es = refl
all_noted kind.MeasurementResult es = refl
all_noted kind.RfChannelRelease es = refl
all_noted kind.RfChannelReleaseAck es = refl
