-- Which octets are the text of a message, what is wrong with all others, and which text is written
-- (TS 48.058 clause 9).
use Rattle.std.specs.Prelude.{◌≡◌, ◌↔◌, ◌⊎◌, ℕ, ◌+◌, ◌<◌, ◌≤◌, List, ◌∷◌, length}
use Rattle.octet_elements.specs.Elements.{all_octets}
use Rattle.octet_elements.specs.Texts.{Codec}
use Rattle.octet_elements.specs.Texts as texts
use Rattle.rsl_messages.specs.declared.fault.RslFault.{RslFault}
use Rattle.rsl_messages.specs.declared.fault.RslFault.TheVariants as fault
use Rattle.rsl_messages.specs.declared.head.MessageKind.{MessageKind}
use Rattle.rsl_messages.specs.declared.message.Rsl.{Rsl}
use Rattle.rsl_messages.specs.Forms.{abis}
use Rattle.rsl_messages.specs.Heads.{Begins, HasHeadFault}
use Rattle.rsl_messages.specs.Values.{fault_of}
use Rattle.rsl_messages.specs.Messages.{head_of, said, kind_of, elements_of, HasOctets, CanBeSaid}

-- a message has at most so many octets
abbrev pub limit : ℕ
limit = 1024

-- the first fault before the body: there are too many octets; else the head has it
abbrev pub HasEarlyFault : List ℕ → RslFault → Type 0
HasEarlyFault octets f = ((limit < length octets) × (f ≡ fault.TooLong)) ⊎ ((length octets ≤ limit) × HasHeadFault octets f)

abbrev pub codec : (A : Type 0) → Codec MessageKind (Rsl A) RslFault
codec A = record {
  forms = abis;
  Begins = λ kind octets body. (length octets ≤ limit) × Begins kind octets body;
  HasHeadFault = HasEarlyFault;
  said = said;
  KeepsList = HasOctets;
  torn = λ at. fault.Torn (2 + at);
  fault_of = fault_of;
  no_memory = fault.NoMemory;
}

-- the octets are a text of the message
abbrev pub IsTextOf : {A : Type 0} → Rsl A → List ℕ → Type 0
IsTextOf {A} v octets = texts.IsTextOf (codec A) v octets

-- the octets have this first fault
abbrev pub HasFault : (A : Type 0) → List ℕ → RslFault → Type 0
HasFault A octets f = texts.HasFault (codec A) octets f

-- The canonical text: the head and the elements as they are written.
abbrev pub canonical_text : {A : Type 0} → Rsl A → List ℕ
canonical_text v = (head_of (kind_of v)).0 ∷ (head_of (kind_of v)).1 ∷ all_octets abis (elements_of v)

-- The message has a canonical text.
abbrev pub HasCanonical : {A : Type 0} → Rsl A → Type 0
HasCanonical v = IsTextOf v (canonical_text v)

-- Just the messages whose fields can be said, in at most 1,024 octets, have a canonical text.
abbrev pub CanonicalIsText : (A : Type 0) → Type 0
CanonicalIsText A = (v : Rsl A) → (CanBeSaid v × (length (canonical_text v) ≤ limit)) ↔ HasCanonical v
