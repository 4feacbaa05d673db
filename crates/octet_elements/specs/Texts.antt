-- Which octets are the text of a message, and what is wrong with all others, where a message is a head
-- and then elements.
use Rattle.std.specs.Prelude.{◌≡◌, ◌≢◌, ◌⊎◌, ℕ, List, Result, Ok, Err, IfOk, IfErr}
use Rattle.octet_elements.specs.Elements.{Element, Forms, AreElements, IsTornAt}
use Rattle.octet_elements.specs.Lookup.{Lookup, values_in}
use Rattle.octet_elements.specs.declared.values.ValueFault.{ValueFault}

-- A codec: its kinds of messages, the values that it reads, and its faults.
pub record Codec (Kind V F : Type 0) : Type 1 where
  -- the form of each identifier
  pub forms : Forms
  -- the octets are the head of a message of this kind, and then this body
  pub Begins : Kind → List ℕ → List ℕ → Type 0
  -- the octets have this fault before the body
  pub HasHeadFault : List ℕ → F → Type 0
  -- what the elements of a message of this kind say
  pub said : Kind → Lookup → Result V ValueFault
  -- the value keeps a list that isn't empty, for which reading it may ask for memory
  pub KeepsList : V → Type 0
  -- the fault of a body that is torn at this offset, of an element's value, and of memory that is refused
  pub torn : ℕ → F
  pub fault_of : ValueFault → F
  pub no_memory : F

-- The body of a message of this kind is whole elements, in any order, and this is what they say. An
-- element that stands twice is read where it stands first, and one that the message has no use for isn't read.
pub record Says {Kind V F : Type 0} (c : Codec Kind V F) (kind : Kind) (body : List ℕ) (said : Result V ValueFault) : Type 0 where
  pub elements : List Element
  pub split : AreElements c.forms elements body
  pub says : c.said kind (values_in elements) ≡ said

-- The octets are a text of the value: a head and a body that says it.
pub record IsTextOf {Kind V F : Type 0} (c : Codec Kind V F) (v : V) (octets : List ℕ) : Type 0 where
  pub kind : Kind
  pub body : List ℕ
  pub head : c.Begins kind octets body
  pub says : Says c kind body (Ok v)

-- The fault that goes with what elements say. Memory is refused only for a value that keeps a list.
abbrev pub GoesWith : {Kind V F : Type 0} → Codec Kind V F → Result V ValueFault → F → Type 0
GoesWith c (Ok v) f = (f ≡ c.no_memory) × c.KeepsList v
GoesWith c (Err e) f = f ≡ c.fault_of e

-- The first fault of a body: it is torn; or it is whole, and the fault goes with what it says.
abbrev pub HasBodyFault : {Kind V F : Type 0} → Codec Kind V F → Kind → List ℕ → F → Type 0
HasBodyFault {V = V} c kind body f = ((at : ℕ) × IsTornAt c.forms body at × (f ≡ c.torn at)) ⊎ ((said : Result V ValueFault) × Says c kind body said × GoesWith c said f)

-- The first fault of octets: the head has it; else the body.
abbrev pub HasFault : {Kind V F : Type 0} → Codec Kind V F → List ℕ → F → Type 0
HasFault {Kind = Kind} c octets f = c.HasHeadFault octets f ⊎ ((kind : Kind) × (body : List ℕ) × c.Begins kind octets body × HasBodyFault c kind body f)

-- What a reader of whole elements answers to what they say: the value, or the fault that goes with it.
abbrev pub Answers : {Kind V F : Type 0} → Codec Kind V F → Result V F → Result V ValueFault → Type 0
Answers c (Ok v) said = said ≡ Ok v
Answers c (Err f) said = GoesWith c said f

-- What a decoder answers: the value of a text, and each text's where memory isn't refused; to all other octets their
-- first fault. Memory is refused only for a text whose value keeps a list.
pub record Decodes {Kind V F : Type 0} (c : Codec Kind V F) (octets : List ℕ) (result : Result V F) : Type 0 where
  pub text : IfOk result (λ v. IsTextOf c v octets)
  pub exact : (v : V) → IsTextOf c v octets → result ≢ Err c.no_memory → result ≡ Ok v
  pub fault : IfErr result (HasFault c octets)
  pub memory : result ≡ Err c.no_memory → (v : V) × IsTextOf c v octets × c.KeepsList v

-- Octets have one reading: a text has one value, and no fault but refused memory; no octets have two faults.
pub record ReadingIsUnique {Kind V F : Type 0} (c : Codec Kind V F) : Type 0 where
  pub value : (v w : V) (octets : List ℕ) → IsTextOf c v octets → IsTextOf c w octets → v ≡ w
  pub text : (v : V) (octets : List ℕ) (f : F) → IsTextOf c v octets → HasFault c octets f → f ≡ c.no_memory
  pub fault : (octets : List ℕ) (f g : F) → HasFault c octets f → HasFault c octets g → f ≡ g

-- Octets begin with one head or have one fault in it, and never both.
pub record HeadsAreUnique {Kind V F : Type 0} (c : Codec Kind V F) : Type 0 where
  pub head : (j k : Kind) (octets x y : List ℕ) → c.Begins j octets x → c.Begins k octets y → (j ≡ k) × (x ≡ y)
  pub fault : (octets : List ℕ) (f g : F) → c.HasHeadFault octets f → c.HasHeadFault octets g → f ≡ g
  pub either : (octets : List ℕ) (f : F) (kind : Kind) (body : List ℕ) → c.HasHeadFault octets f → c.Begins kind octets body → ⊥
