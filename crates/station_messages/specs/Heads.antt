-- The head of a message: discriminator and type (TS 48.058 clauses 9.1 and 9.2), as a table has them for each kind of message.
-- Behind it stand elements.
use Rattle.std.specs.Prelude.{◌≡◌, ◌⊎◌, ℕ, ◌+◌, ◌<◌, ◌≤◌, ◌/◌, List, [], ◌∷◌, length, Result}
use Rattle.octet_elements.specs.Lookup.{Lookup}
use Rattle.octet_elements.specs.Texts.{Codec}
use Rattle.octet_elements.specs.declared.values.ValueFault.{ValueFault}
use Rattle.rsl_messages.specs.declared.fault.RslFault.{RslFault}
use Rattle.rsl_messages.specs.declared.fault.RslFault.TheVariants as fault
use Rattle.rsl_messages.specs.declared.fault.RslFault.TheVariants.{NotRsl, Torn, UnknownType, TooLong, Missing, BadElement, NoMemory}
use Rattle.rsl_messages.specs.Forms.{abis}
use Rattle.rsl_messages.specs.Heads.{IsDiscriminator}
use Rattle.rsl_messages.specs.Texts.{limit}
use Rattle.rsl_messages.specs.Values.{fault_of}

-- discriminator and type of each kind of message
abbrev pub Heads : Type 0 → Type 0
Heads Kind = Kind → ℕ × ℕ

-- the two octets are the head of a message of this kind, bit 1 of the discriminator aside
abbrev pub IsHead : {Kind : Type 0} → Heads Kind → Kind → ℕ → ℕ → Type 0
IsHead heads kind d t = (d / 2 ≡ (heads kind).0 / 2) × (t ≡ (heads kind).1)

-- the octets are the head of a message of this kind, and then its body
abbrev pub Begins : {Kind : Type 0} → Heads Kind → Kind → List ℕ → List ℕ → Type 0
Begins heads kind octets body = (d : ℕ) × (t : ℕ) × (octets ≡ d ∷ t ∷ body) × IsHead heads kind d t

abbrev pub BeginsWithin : {Kind : Type 0} → Heads Kind → Kind → List ℕ → List ℕ → Type 0
BeginsWithin heads kind octets body = (length octets ≤ limit) × Begins heads kind octets body

-- The first octets have this fault, whatever messages there are: there are too many; none, or a discriminator of messages that aren't
-- about a channel; a discriminator and no type.
abbrev pub HasSplitFault : List ℕ → RslFault → Type 0
HasSplitFault octets NotRsl = (length octets ≤ limit) × ((octets ≡ []) ⊎ ((d : ℕ) × (rest : List ℕ) × (octets ≡ d ∷ rest) × (IsDiscriminator d → ⊥)))
HasSplitFault octets (Torn at) = (length octets ≤ limit) × ((d : ℕ) × (octets ≡ d ∷ []) × IsDiscriminator d × (at ≡ 1))
HasSplitFault octets (UnknownType t) = ⊥
HasSplitFault octets TooLong = limit < length octets
HasSplitFault octets (Missing i) = ⊥
HasSplitFault octets (BadElement i) = ⊥
HasSplitFault octets NoMemory = ⊥

-- The octets have a type that no message of the table has.
abbrev pub HasTypeFault : {Kind : Type 0} → Heads Kind → List ℕ → RslFault → Type 0
HasTypeFault {Kind} heads octets f = (length octets ≤ limit) × ((d : ℕ) × (t : ℕ) × (body : List ℕ) × (octets ≡ d ∷ t ∷ body) × IsDiscriminator d × ((kind : Kind) → IsHead heads kind d t → ⊥) × (f ≡ UnknownType t))

-- the first fault before the body
abbrev pub HasEarlyFault : {Kind : Type 0} → Heads Kind → List ℕ → RslFault → Type 0
HasEarlyFault heads octets f = HasSplitFault octets f ⊎ HasTypeFault heads octets f

-- The codec of messages that have these heads, and whose elements say this. None keeps a list.
abbrev pub codec_of : {Kind V : Type 0} → Heads Kind → (Kind → Lookup → Result V ValueFault) → Codec Kind V RslFault
codec_of heads said = record {
  forms = abis;
  Begins = BeginsWithin heads;
  HasHeadFault = HasEarlyFault heads;
  said = said;
  KeepsList = λ v. ⊥;
  torn = λ at. fault.Torn (2 + at);
  fault_of = fault_of;
  no_memory = fault.NoMemory;
}
