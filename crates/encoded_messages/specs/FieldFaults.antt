-- Why fields can't be read: the first thing that is wrong with them. A text is the list of its bytes. Ours, of no standard.
use Rattle.std.specs.Prelude.{◌≡◌, ◌≢◌, ℕ, List, Result, Ok, Err}
use Rattle.encoded_messages.specs.declared.field_fault.Allowed.{Allowed}
use Rattle.encoded_messages.specs.declared.field_fault.FieldFault.{FieldFault}
use Rattle.encoded_messages.specs.declared.field_fault.FieldFault.TheVariants as found

-- A fault by its texts: a word that is no field; the key of a field that is missing, or that stands twice; the key and the
-- value of one whose value is another than it may be. Memory that was refused is no text's fault: nothing here says it.
pub data Fault : Type 0 where
  Unknown Missing Twice : List ℕ → Fault
  Value : List ℕ → List ℕ → Allowed → Fault
  NoMemory : Fault

-- the texts of a fault that was found
abbrev pub fault_of : FieldFault → Fault
fault_of (found.Unknown word) = Unknown word.now
fault_of (found.Missing key) = Missing key.now
fault_of (found.Twice key) = Twice key.now
fault_of (found.Value key value allowed) = Value key.now value.now allowed
fault_of found.NoMemory = NoMemory

-- what is read, or the first thing that is wrong
abbrev pub Read : Type 0 → Type 0
Read X = Result X Fault

infixl 10 ◌>>=◌
infixl 10 ◌>>◌
-- what is read next, once what stands before has been read
abbrev pub ◌>>=◌ : {X Y E : Type 0} → Result X E → (X → Result Y E) → Result Y E
(Ok x) >>= next = next x
(Err fault) >>= next = Err fault

abbrev pub ◌>>◌ : {X Y E : Type 0} → Result X E → Result Y E → Result Y E
(Ok x) >> next = next
(Err fault) >> next = Err fault

-- what is made of what is read
abbrev pub read_map : {X Y E : Type 0} → (X → Y) → Result X E → Result Y E
read_map f (Ok x) = Ok (f x)
read_map f (Err fault) = Err fault

-- what was read, its fault by its texts
abbrev pub read_of : {X : Type 0} → Result X FieldFault → Read X
read_of (Ok x) = Ok x
read_of (Err fault) = Err (fault_of fault)

-- What a reader that asks for memory answers: what is said, or the first thing that is wrong, unless memory was refused.
abbrev pub Answers : {X : Type 0} → Result X FieldFault → Read X → Type 0
Answers (Ok x) said = said ≡ Ok x
Answers (Err fault) said = fault ≢ found.NoMemory → said ≡ Err (fault_of fault)
