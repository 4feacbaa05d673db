-- The head of a message: discriminator and type (TS 48.058 clauses 9.1 and 9.2).
use Rattle.std.specs.Prelude.{◌≡◌, ◌⊎◌, ℕ, ◌/◌, List, [], ◌∷◌}
use Rattle.rsl_messages.specs.declared.fault.RslFault.{RslFault}
use Rattle.rsl_messages.specs.declared.fault.RslFault.TheVariants.{NotRsl, Torn, UnknownType, TooLong, Missing, BadElement, NoMemory}
use Rattle.rsl_messages.specs.declared.head.MessageKind.{MessageKind}
use Rattle.rsl_messages.specs.Messages.{head_of}

-- Bit 1 of a discriminator, which says that a message passes through the base station, is ignored. What
-- is left is 1 for radio link layer management and 4 for dedicated channel management.
abbrev pub IsDiscriminator : ℕ → Type 0
IsDiscriminator d = (d / 2 ≡ 1) ⊎ (d / 2 ≡ 4)

-- the two octets are the head of a message of this kind
abbrev pub IsHead : MessageKind → ℕ → ℕ → Type 0
IsHead kind d t = (d / 2 ≡ (head_of kind).0 / 2) × (t ≡ (head_of kind).1)

-- the octets are the head of a message of this kind, and then its body
abbrev pub Begins : MessageKind → List ℕ → List ℕ → Type 0
Begins kind octets body = (d : ℕ) × (t : ℕ) × (octets ≡ d ∷ t ∷ body) × IsHead kind d t

-- The octets have this fault in their head: no octet, or another discriminator; a discriminator and no
-- type; a type that no message of the discriminator has.
abbrev pub HasHeadFault : List ℕ → RslFault → Type 0
HasHeadFault octets NotRsl = (octets ≡ []) ⊎ ((d : ℕ) × (rest : List ℕ) × (octets ≡ d ∷ rest) × (IsDiscriminator d → ⊥))
HasHeadFault octets (Torn at) = (d : ℕ) × (octets ≡ d ∷ []) × IsDiscriminator d × (at ≡ 1)
HasHeadFault octets (UnknownType t) = (d : ℕ) × (body : List ℕ) × (octets ≡ d ∷ t ∷ body) × IsDiscriminator d × ((kind : MessageKind) → IsHead kind d t → ⊥)
HasHeadFault octets TooLong = ⊥
HasHeadFault octets (Missing i) = ⊥
HasHeadFault octets (BadElement i) = ⊥
HasHeadFault octets NoMemory = ⊥
