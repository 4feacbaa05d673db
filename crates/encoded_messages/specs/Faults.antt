-- Why a text can't be written as a message: the first thing that is wrong with it. A text is the list of its bytes. Ours, of
-- no standard.
use Rattle.std.specs.Prelude.{◌≡◌, ◌≢◌, ℕ, List, Result, Ok, Err}
use Rattle.encoded_messages.specs.declared.field_fault.FieldFault.{FieldFault}
use Rattle.encoded_messages.specs.declared.field_fault.FieldFault.TheVariants as of_field
use Rattle.encoded_messages.specs.FieldFaults as field
use Rattle.encoded_messages.specs.declared.fault.MessageFault.{MessageFault}
use Rattle.encoded_messages.specs.declared.fault.MessageFault.TheVariants as found

-- A fault by its texts: what stands before the fields names no message of the link, none that has a layer 3, or none
-- that is one; something is
-- wrong with the fields; the count says so many neighbours, and there are so many; the message has no canonical text. Memory that
-- was refused is no text's fault: nothing here says it.
pub data Fault : Type 0 where
  Name NoLayer3 Layer3 : List ℕ → Fault
  Field : field.Fault → Fault
  Neighbours : ℕ → ℕ → Fault
  TooLong NoMemory : Fault

-- the texts of a fault that was found
abbrev pub fault_of : MessageFault → Fault
fault_of (found.Name name) = Name name.now
fault_of (found.NoLayer3 name) = NoLayer3 name.now
fault_of (found.Layer3 name) = Layer3 name.now
fault_of (found.Field fault) = Field (field.fault_of fault)
fault_of (found.Neighbours count found) = Neighbours count found
fault_of found.TooLong = TooLong
fault_of found.NoMemory = NoMemory

-- a fault of fields that was found, as one of a message
abbrev pub from_field : FieldFault → MessageFault
from_field of_field.NoMemory = found.NoMemory
from_field fault = found.Field fault

-- and by its texts
abbrev pub field_fault : field.Fault → Fault
field_fault field.NoMemory = NoMemory
field_fault fault = Field fault

-- what is read, or the first thing that is wrong
abbrev pub Read : Type 0 → Type 0
Read X = Result X Fault

-- what is read in fields
abbrev pub in_fields : {X : Type 0} → field.Read X → Read X
in_fields (Ok x) = Ok x
in_fields (Err fault) = Err (field_fault fault)

-- what is read as the layer 3 of a message: a name that is none is told as such
abbrev pub as_layer3 : {X : Type 0} → Read X → Read X
as_layer3 (Ok x) = Ok x
as_layer3 (Err (Name name)) = Err (Layer3 name)
as_layer3 (Err fault) = Err fault

-- what was read, its fault by its texts
abbrev pub read_of : {X : Type 0} → Result X MessageFault → Read X
read_of (Ok x) = Ok x
read_of (Err fault) = Err (fault_of fault)

-- What a reader that asks for memory answers: what is said, or the first thing that is wrong, unless memory was refused.
abbrev pub Answers : {X : Type 0} → Result X MessageFault → Read X → Type 0
Answers (Ok x) said = said ≡ Ok x
Answers (Err fault) said = fault ≢ found.NoMemory → said ≡ Err (fault_of fault)
