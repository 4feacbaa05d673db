-- Which octets are the text of a message, what is wrong with others, which text is written (TS 48.008 clause 3.2).
use Rattle.std.specs.Prelude.{ℕ, ◌+◌, ◌≤◌, ◌↔◌, List, ◌∷◌, length}
use Rattle.octet_elements.specs.Elements.{all_octets}
use Rattle.octet_elements.specs.Texts as texts
use Rattle.bssmap_messages.specs.declared.fault.BssmapFault.{BssmapFault}
use Rattle.bssmap_messages.specs.declared.fault.BssmapFault.TheVariants.{Torn, NoMemory}
use Rattle.bssmap_messages.specs.declared.head.MessageKind.{MessageKind}
use Rattle.bssmap_messages.specs.declared.message.Bssmap.{Bssmap}
use Rattle.bssmap_messages.specs.Forms.{interface_a}
use Rattle.bssmap_messages.specs.Heads.{Begins, HasHeadFault, limit}
use Rattle.bssmap_messages.specs.Values.{fault_of}
use Rattle.bssmap_messages.specs.Messages.{said, type_of, kind_of, elements_of, KeepsList, CanBeSaid}

-- The body of a message follows three octets of head.
abbrev pub codec : (A : Type 0) → texts.Codec MessageKind (Bssmap A) BssmapFault
codec A = record {
  forms = interface_a;
  Begins = Begins;
  HasHeadFault = HasHeadFault;
  said = said;
  KeepsList = KeepsList;
  torn = λ at. Torn (3 + at);
  fault_of = fault_of;
  no_memory = NoMemory;
}

-- the octets are a text of the message
abbrev pub IsTextOf : {A : Type 0} → Bssmap A → List ℕ → Type 0
IsTextOf {A} v octets = texts.IsTextOf (codec A) v octets

-- the first fault of octets
abbrev pub HasFault : (A : Type 0) → List ℕ → BssmapFault → Type 0
HasFault A octets f = texts.HasFault (codec A) octets f

-- type and elements as they are written
abbrev pub written_octets : {A : Type 0} → Bssmap A → List ℕ
written_octets v = type_of (kind_of v) ∷ all_octets interface_a (elements_of v)

-- The canonical text: discriminator 0, the length octet, type and elements as they are written.
abbrev pub canonical_text : {A : Type 0} → Bssmap A → List ℕ
canonical_text v = 0 ∷ length (written_octets v) ∷ written_octets v

-- the message has a canonical text
abbrev pub HasCanonical : {A : Type 0} → Bssmap A → Type 0
HasCanonical v = IsTextOf v (canonical_text v)

-- Just the messages whose fields can be said, in at most 253 octets behind the length octet, have a canonical text.
abbrev pub CanonicalIsText : (A : Type 0) → Type 0
CanonicalIsText A = (v : Bssmap A) → (CanBeSaid v × (length (written_octets v) ≤ limit)) ↔ HasCanonical v
