-- The message on A that a text says (TS 48.008 clause 3.2.1), or the first thing that is wrong with the text: its name; a word
-- that is no field of the message; then each field, in the order in which it stands here. A text is the list of its bytes;
-- the words are ours, of no standard.
use Rattle.std.specs.Prelude.{◌≡◌, ◌⊎◌, ℕ, ◌+◌, ◌==◌, Bool, true, false, nat_le, if◌then◌else◌, List, [], ◌∷◌, length, codes, Option, Some, None, option_map, option_and_then, unwrap_or, Ok, Err, IsOkAnd, bytes_eq}
use Rattle.std.specs.Result.{result_ok}
use Rattle.encoded_messages.specs.declared.field_fault.Allowed.TheVariants as may
use Rattle.encoded_messages.specs.FieldFaults.{Read as FieldRead, ◌>>=◌, ◌>>◌, read_map}
use Rattle.encoded_messages.specs.Words.{parts_of}
use Rattle.encoded_messages.specs.Values as value
use Rattle.encoded_messages.specs.Fields.{name_of, fields_of, only_keys, field_at, cause_at, flag_at, optional_octet_at, octets_at}
use Rattle.bssmap_messages.specs.declared.message.CellId.{CellId}
use Rattle.bssmap_messages.specs.declared.message.Classmark.{Classmark}
use Rattle.bssmap_messages.specs.declared.message.Classmark.TheVariants.{One, Two}
use Rattle.bssmap_messages.specs.declared.message.Bssmap.{Bssmap}
use Rattle.bssmap_messages.specs.declared.message.Bssmap.TheVariants.{HandoverRequest, HandoverRequired, HandoverRequestAck, HandoverCommand, HandoverComplete, HandoverFailure, HandoverPerformed, HandoverRequiredReject, HandoverDetect, ClearCommand, ClearComplete, ClearRequest}
use Rattle.bssmap_messages.specs.Texts.{HasCanonical, canonical_text}
use Rattle.encoded_messages.specs.Faults.{Fault, Name, TooLong, Read, in_fields}

-- a cell with its location area
abbrev pub cell_of : List ℕ → Option CellId
cell_of text = option_map (λ cell. record { lac = Some cell.0; ci = cell.1 }) (value.cell_of text)

unfoldable pub cell_at : List ℕ → List ℕ → FieldRead CellId
cell_at key fields = field_at may.Cell cell_of key fields

-- the cells of all parts
abbrev pub cells_of : List (List ℕ) → Option (List CellId)
cells_of [] = Some []
cells_of (part ∷ parts) = option_and_then (λ cell. option_map (λ cells. cell ∷ cells) (cells_of parts)) (cell_of part)

unfoldable pub cells_at : List ℕ → FieldRead (List CellId)
cells_at fields = field_at may.Cells (λ value. cells_of (parts_of value)) (codes "cells") fields

-- of type 1 where it is one octet
abbrev pub classmark_of : {A : Type 0} → List ℕ → Classmark A
classmark_of [] = Two []
classmark_of (octet ∷ []) = One octet
classmark_of (octet ∷ next ∷ octets) = Two (octet ∷ next ∷ octets)

unfoldable pub classmark_at : {A : Type 0} → List ℕ → FieldRead (Classmark A)
classmark_at fields = read_map classmark_of (octets_at 0 (codes "classmark") fields)

-- the serving cell and the target cell
unfoldable pub request_cells : List ℕ → FieldRead (CellId × CellId)
request_cells fields = do
  serving ← cell_at (codes "serving") fields
  target ← cell_at (codes "target") fields
  Ok (serving, target)

-- the keys of the fields of HANDOVER REQUEST
unfoldable pub request_keys : List (List ℕ)
request_keys = codes "channel" ∷ codes "encryption" ∷ codes "classmark" ∷ codes "serving" ∷ codes "target" ∷ []

unfoldable pub handover_request : {A : Type 0} → List ℕ → FieldRead (Bssmap A)
handover_request fields = do
  only_keys request_keys fields
  channel ← octets_at 2 (codes "channel") fields
  encryption ← octets_at 1 (codes "encryption") fields
  classmark ← classmark_at fields
  cells ← request_cells fields
  Ok (HandoverRequest channel encryption classmark cells.0 cells.1)

unfoldable pub handover_required : {A : Type 0} → List ℕ → FieldRead (Bssmap A)
handover_required fields = do
  only_keys (codes "cause" ∷ codes "response" ∷ codes "cells" ∷ []) fields
  cause ← cause_at (codes "cause") fields
  response ← flag_at (codes "response") fields
  cells ← cells_at fields
  Ok (HandoverRequired cause response cells)

unfoldable pub layer3_alone : List ℕ → FieldRead (List ℕ)
layer3_alone fields = do
  only_keys (codes "layer3" ∷ []) fields
  octets_at 1 (codes "layer3") fields

unfoldable pub handover_complete : {A : Type 0} → List ℕ → FieldRead (Bssmap A)
handover_complete fields = do
  only_keys (codes "rr" ∷ []) fields
  rr ← optional_octet_at (codes "rr") fields
  Ok (HandoverComplete rr)

unfoldable pub handover_failure : {A : Type 0} → List ℕ → FieldRead (Bssmap A)
handover_failure fields = do
  only_keys (codes "cause" ∷ codes "rr" ∷ []) fields
  cause ← cause_at (codes "cause") fields
  rr ← optional_octet_at (codes "rr") fields
  Ok (HandoverFailure cause rr)

unfoldable pub handover_performed : {A : Type 0} → List ℕ → FieldRead (Bssmap A)
handover_performed fields = do
  only_keys (codes "cause" ∷ codes "cell" ∷ []) fields
  cause ← cause_at (codes "cause") fields
  cell ← cell_at (codes "cell") fields
  Ok (HandoverPerformed cause cell)

unfoldable pub cause_alone : List ℕ → FieldRead ℕ
cause_alone fields = do
  only_keys (codes "cause" ∷ []) fields
  cause_at (codes "cause") fields

-- this message, of fields that are none
unfoldable pub no_fields : {A : Type 0} → List ℕ → Bssmap A → FieldRead (Bssmap A)
no_fields fields message = do
  only_keys [] fields
  Ok message

-- the message of this name with these fields, without those that have lists
unfoldable pub short_message : {A : Type 0} → List ℕ → List ℕ → Read (Bssmap A)
short_message name fields =
    if bytes_eq name (codes "HANDOVER COMPLETE") then in_fields (handover_complete fields)
    else if bytes_eq name (codes "HANDOVER FAILURE") then in_fields (handover_failure fields)
    else if bytes_eq name (codes "HANDOVER PERFORMED") then in_fields (handover_performed fields)
    else if bytes_eq name (codes "HANDOVER REQUIRED REJECT") then in_fields (read_map HandoverRequiredReject (cause_alone fields))
    else if bytes_eq name (codes "HANDOVER DETECT") then in_fields (no_fields fields HandoverDetect)
    else if bytes_eq name (codes "CLEAR COMMAND") then in_fields (read_map ClearCommand (cause_alone fields))
    else if bytes_eq name (codes "CLEAR COMPLETE") then in_fields (no_fields fields ClearComplete)
    else if bytes_eq name (codes "CLEAR REQUEST") then in_fields (read_map ClearRequest (cause_alone fields))
    else Err (Name name)

-- the message of this name with these fields
unfoldable pub message_of : {A : Type 0} → List ℕ → List ℕ → Read (Bssmap A)
message_of name fields =
    if bytes_eq name (codes "HANDOVER REQUEST") then in_fields (handover_request fields)
    else if bytes_eq name (codes "HANDOVER REQUIRED") then in_fields (handover_required fields)
    else if bytes_eq name (codes "HANDOVER REQUEST ACKNOWLEDGE") then in_fields (read_map HandoverRequestAck (layer3_alone fields))
    else if bytes_eq name (codes "HANDOVER COMMAND") then in_fields (read_map HandoverCommand (layer3_alone fields))
    else short_message name fields

-- what the name and the fields of a text say
abbrev pub message_in : {A : Type 0} → List ℕ → Read (Bssmap A)
message_in text = message_of (name_of text) (fields_of text)

-- they say a message that has a canonical text
abbrev pub CanBeWritten : Type 0 → List ℕ → Type 0
CanBeWritten A text = IsOkAnd (message_in {A = A} text) HasCanonical

-- and that is these octets
abbrev pub Writes : Type 0 → List ℕ → List ℕ → Type 0
Writes A text octets = IsOkAnd (message_in {A = A} text) (λ message. HasCanonical message × (octets ≡ canonical_text message))

-- The first thing that is wrong with a text: they say no message, and why; or one that has no canonical text.
abbrev pub HasFault : Type 0 → List ℕ → Fault → Type 0
HasFault A text fault = (message_in {A = A} text ≡ Err fault) ⊎ ((fault ≡ TooLong) × IsOkAnd (message_in {A = A} text) (λ message. HasCanonical message → ⊥))

-- so many octets of a classmark: of type 1 one
abbrev pub classmark_len : {A : Type 0} → Classmark A → ℕ
classmark_len (One octet) = 1
classmark_len (Two octets) = length octets

-- how many octets of channel type, encryption information and classmark together have room in HANDOVER REQUEST, by those of
-- the classmark
abbrev pub request_room : ℕ → ℕ
request_room classmark = if classmark == 1 then 233 else 232

abbrev pub request_fits : ℕ → ℕ → ℕ → Bool
request_fits channel encryption classmark = nat_le (channel + encryption + classmark) (request_room classmark)

-- a message that a text says has a canonical text: it isn't too long
abbrev pub can_be_written : {A : Type 0} → Bssmap A → Bool
can_be_written (HandoverRequest channel encryption classmark serving target) = request_fits (length channel) (length encryption) (classmark_len classmark)
can_be_written (HandoverRequired cause response cells) = nat_le (length cells) 61
can_be_written (HandoverRequestAck layer3) = nat_le (length layer3) 250
can_be_written (HandoverCommand layer3) = nat_le (length layer3) 250
can_be_written (HandoverComplete rr) = true
can_be_written (HandoverFailure cause rr) = true
can_be_written (HandoverPerformed cause cell) = true
can_be_written (HandoverRequiredReject cause) = true
can_be_written HandoverDetect = true
can_be_written (ClearCommand cause) = true
can_be_written ClearComplete = true
can_be_written (ClearRequest cause) = true

-- the canonical text of a message, where it has one
abbrev pub octets_of_message : {A : Type 0} → Bssmap A → Option (List ℕ)
octets_of_message message = if can_be_written message then Some (canonical_text message) else None

-- what fields say can be written
abbrev pub can_be_written_of : FieldRead (Bssmap Unit) → Bool
can_be_written_of read = unwrap_or (option_map can_be_written (result_ok read)) false

-- and of what a name and fields say
abbrev pub can_be_written_in : Read (Bssmap Unit) → Bool
can_be_written_in read = unwrap_or (option_map can_be_written (result_ok read)) false

-- the field of cells has so many or fewer
abbrev pub few_cells_at : ℕ → List ℕ → Bool
few_cells_at most fields = unwrap_or (option_map (λ cells. nat_le (length cells) most) (result_ok (cells_at fields))) false

-- a layer 3 message that isn't too long
abbrev pub short_layer3 : FieldRead (List ℕ) → Bool
short_layer3 read = unwrap_or (option_map (λ layer3. nat_le (length layer3) 250) (result_ok read)) false

-- The octets of the message that a text says, which is its canonical text; nothing where the text says none that has one.
unfoldable pub octets_said : List ℕ → Option (List ℕ)
octets_said text = option_and_then octets_of_message (result_ok (message_in {A = Unit} text))
