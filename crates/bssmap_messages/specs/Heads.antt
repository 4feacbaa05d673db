-- The head of a message: discriminator and length (TS 48.006 clause 9.3), type (TS 48.008 clauses 3.2.2.1 and 3.2.1).
use Rattle.std.specs.Prelude.{◌≡◌, ◌≢◌, ◌⊎◌, ℕ, ◌<◌, ◌≤◌, List, [], ◌∷◌, length}
use Rattle.bssmap_messages.specs.declared.fault.BssmapFault.{BssmapFault}
use Rattle.bssmap_messages.specs.declared.fault.BssmapFault.TheVariants.{NotBssmap, Length, UnknownType, Torn, Missing, BadElement, NoMemory}
use Rattle.bssmap_messages.specs.declared.head.MessageKind.{MessageKind}
use Rattle.bssmap_messages.specs.Messages.{type_of}

-- the greatest length octet
abbrev pub limit : ℕ
limit = 253

-- The octets carry these: discriminator 0, a length octet that counts them, and they follow. They are
-- at least one and at most 253.
pub record Carries (octets carried : List ℕ) : Type 0 where
  pub framed : octets ≡ 0 ∷ length carried ∷ carried
  pub some : 0 < length carried
  pub within : length carried ≤ limit

-- the octets are the head of a message of this kind, and then its body
abbrev pub Begins : MessageKind → List ℕ → List ℕ → Type 0
Begins kind octets body = Carries octets (type_of kind ∷ body)

-- The octets have this fault in their head: no octet, or another discriminator; no length octet, or one
-- that doesn't say what follows; a type that no message has.
abbrev pub HasHeadFault : List ℕ → BssmapFault → Type 0
HasHeadFault octets NotBssmap = (octets ≡ []) ⊎ ((d : ℕ) × (rest : List ℕ) × (octets ≡ d ∷ rest) × (d ≢ 0))
HasHeadFault octets Length = (rest : List ℕ) × (octets ≡ 0 ∷ rest) × ((carried : List ℕ) → Carries octets carried → ⊥)
HasHeadFault octets (UnknownType t) = (body : List ℕ) × Carries octets (t ∷ body) × ((kind : MessageKind) → t ≡ type_of kind → ⊥)
HasHeadFault octets (Torn at) = ⊥
HasHeadFault octets (Missing i) = ⊥
HasHeadFault octets (BadElement i) = ⊥
HasHeadFault octets NoMemory = ⊥
