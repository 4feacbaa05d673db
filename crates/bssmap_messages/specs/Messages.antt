-- The messages (TS 48.008 clause 3.2.1): of each its type, and row by row its elements, as they are read and written.
use Rattle.std.specs.Prelude.{ℕ, ◌+◌, ◌<◌, Bool, List, [], length, Option, Some, None, Result, Ok, Err, IsTrue, IsSome, is_some}
use Rattle.std.specs.List.{list_all}
use Rattle.octet_elements.specs.Elements.{Element}
use Rattle.octet_elements.specs.Lookup.{Lookup}
use Rattle.octet_elements.specs.Rows.{Row, Entry, entry, octet, optional_octet, octets, presence, ◌▸◌}
use Rattle.octet_elements.specs.declared.values.ValueFault.{ValueFault}
use Rattle.bssmap_messages.specs.declared.head.MessageKind.{MessageKind}
use Rattle.bssmap_messages.specs.declared.head.MessageKind.TheVariants as kind
use Rattle.bssmap_messages.specs.declared.message.CellId.{CellId}
use Rattle.bssmap_messages.specs.declared.message.Classmark.{Classmark}
use Rattle.bssmap_messages.specs.declared.message.Bssmap.{Bssmap}
use Rattle.bssmap_messages.specs.declared.message.Bssmap.TheVariants.{HandoverRequest, HandoverRequired, HandoverRequestAck, HandoverCommand, HandoverComplete, HandoverFailure, HandoverPerformed, HandoverRequiredReject, HandoverDetect, ClearCommand, ClearComplete, ClearRequest}
use Rattle.bssmap_messages.specs.Forms.{CAUSE, ENCRYPTION_INFORMATION, RR_CAUSE, LAYER_3_INFORMATION, RESPONSE_REQUEST}
use Rattle.bssmap_messages.specs.Values.{channel_type, classmark_information, cell_identifier, second_cell_identifier, cell_identifier_list, classmark_length}

-- the message type (clause 3.2.2.1)
abbrev pub type_of : MessageKind → ℕ
type_of kind.HandoverRequest = 0x10
type_of kind.HandoverRequired = 0x11
type_of kind.HandoverRequestAck = 0x12
type_of kind.HandoverCommand = 0x13
type_of kind.HandoverComplete = 0x14
type_of kind.HandoverFailure = 0x16
type_of kind.HandoverPerformed = 0x17
type_of kind.HandoverRequiredReject = 0x1A
type_of kind.HandoverDetect = 0x1B
type_of kind.ClearCommand = 0x20
type_of kind.ClearComplete = 0x21
type_of kind.ClearRequest = 0x22

-- HANDOVER REQUEST (clause 3.2.1.8): channel type, encryption information (3.2.2.10), classmark
-- information, the cell identifier of the serving cell and that of the target cell.
unfoldable pub handover_request : {A : Type 0} → Row (List ℕ × (List ℕ × (Classmark A × (CellId × CellId))))
handover_request = channel_type ▸ octets ENCRYPTION_INFORMATION ▸ classmark_information ▸ cell_identifier ▸ second_cell_identifier

-- HANDOVER REQUIRED (clause 3.2.1.9): cause (3.2.2.5), [response request (3.2.2.28)], cell identifier list.
unfoldable pub handover_required : Row (ℕ × (Bool × List CellId))
handover_required = octet CAUSE ▸ presence RESPONSE_REQUEST ▸ cell_identifier_list

-- HANDOVER REQUEST ACKNOWLEDGE (clause 3.2.1.10) and HANDOVER COMMAND (3.2.1.11): layer 3 information (3.2.2.24).
unfoldable pub layer_3_alone : Row (List ℕ)
layer_3_alone = octets LAYER_3_INFORMATION

-- HANDOVER COMPLETE (clause 3.2.1.12): [RR cause (3.2.2.22)].
unfoldable pub handover_complete : Row (Option ℕ)
handover_complete = optional_octet RR_CAUSE

-- HANDOVER FAILURE (clause 3.2.1.16): cause, [RR cause].
unfoldable pub handover_failure : Row (ℕ × Option ℕ)
handover_failure = octet CAUSE ▸ optional_octet RR_CAUSE

-- HANDOVER PERFORMED (clause 3.2.1.25): cause, the cell identifier of the new cell.
unfoldable pub handover_performed : Row (ℕ × CellId)
handover_performed = octet CAUSE ▸ cell_identifier

-- HANDOVER REQUIRED REJECT (clause 3.2.1.37), CLEAR COMMAND (3.2.1.21) and CLEAR REQUEST (3.2.1.20): cause.
unfoldable pub cause_alone : Row ℕ
cause_alone = octet CAUSE

-- the message of these fields
abbrev pub value_of : {X V : Type 0} → (X → V) → Result X ValueFault → Result V ValueFault
value_of message (Ok fields) = Ok (message fields)
value_of message (Err fault) = Err fault

-- What the elements of a message say, or the first fault in the order of its rows. HANDOVER DETECT (clause 3.2.1.40)
-- and CLEAR COMPLETE (3.2.1.22) have no elements.
abbrev pub said : {A : Type 0} → MessageKind → Lookup → Result (Bssmap A) ValueFault
said kind.HandoverRequest found = value_of (λ (channel, (encryption, (classmark, (serving, target)))). HandoverRequest channel encryption classmark serving target) (handover_request.read found)
said kind.HandoverRequired found = value_of (λ (cause, (response, cells)). HandoverRequired cause response cells) (handover_required.read found)
said kind.HandoverRequestAck found = value_of HandoverRequestAck (layer_3_alone.read found)
said kind.HandoverCommand found = value_of HandoverCommand (layer_3_alone.read found)
said kind.HandoverComplete found = value_of HandoverComplete (handover_complete.read found)
said kind.HandoverFailure found = value_of (λ (cause, rr). HandoverFailure cause rr) (handover_failure.read found)
said kind.HandoverPerformed found = value_of (λ (cause, cell). HandoverPerformed cause cell) (handover_performed.read found)
said kind.HandoverRequiredReject found = value_of HandoverRequiredReject (cause_alone.read found)
said kind.HandoverDetect found = Ok HandoverDetect
said kind.ClearCommand found = value_of ClearCommand (cause_alone.read found)
said kind.ClearComplete found = Ok ClearComplete
said kind.ClearRequest found = value_of ClearRequest (cause_alone.read found)

-- The messages: which one it is and its elements; a list that isn't empty, for which reading it may ask for memory; and
-- whether it is what its elements say once they are written: octets are long enough, there is a cell, and each cell has
-- a location area code.
abbrev pub entry_of : {A : Type 0} → Bssmap A → Entry MessageKind
entry_of (HandoverRequest channel encryption classmark serving target) = entry kind.HandoverRequest (handover_request.written (channel, (encryption, (classmark, (serving, target)))))
    (0 < length channel + length encryption + classmark_length classmark) ((1 < length channel) × (0 < length encryption) × IsSome serving.lac × IsSome target.lac)
entry_of (HandoverRequired cause response cells) = entry kind.HandoverRequired (handover_required.written (cause, (response, cells)))
    (0 < length cells) ((0 < length cells) × IsTrue (list_all (λ cell. is_some cell.lac) cells))
entry_of (HandoverRequestAck layer3) = entry kind.HandoverRequestAck (layer_3_alone.written layer3)
    (0 < length layer3) (0 < length layer3)
entry_of (HandoverCommand layer3) = entry kind.HandoverCommand (layer_3_alone.written layer3)
    (0 < length layer3) (0 < length layer3)
entry_of (HandoverComplete rr) = entry kind.HandoverComplete (handover_complete.written rr) ⊥ (Unit {0})
entry_of (HandoverFailure cause rr) = entry kind.HandoverFailure (handover_failure.written (cause, rr)) ⊥ (Unit {0})
entry_of (HandoverPerformed cause cell) = entry kind.HandoverPerformed (handover_performed.written (cause, cell))
    ⊥ (IsSome cell.lac)
entry_of (HandoverRequiredReject cause) = entry kind.HandoverRequiredReject (cause_alone.written cause) ⊥ (Unit {0})
entry_of HandoverDetect = entry kind.HandoverDetect [] ⊥ (Unit {0})
entry_of (ClearCommand cause) = entry kind.ClearCommand (cause_alone.written cause) ⊥ (Unit {0})
entry_of ClearComplete = entry kind.ClearComplete [] ⊥ (Unit {0})
entry_of (ClearRequest cause) = entry kind.ClearRequest (cause_alone.written cause) ⊥ (Unit {0})

abbrev pub kind_of : {A : Type 0} → Bssmap A → MessageKind
kind_of v = (entry_of v).kind

abbrev pub elements_of : {A : Type 0} → Bssmap A → List Element
elements_of v = (entry_of v).elements

abbrev pub KeepsList : {A : Type 0} → Bssmap A → Type 0
KeepsList v = (entry_of v).Keeps

abbrev pub CanBeSaid : {A : Type 0} → Bssmap A → Type 0
CanBeSaid v = (entry_of v).CanBeSaid

-- the second cell identifier of a HANDOVER REQUEST (TS 48.008 clause 3.2.1.8); no other message has a target
abbrev pub target_of : {A : Type 0} → Bssmap A → Option CellId
target_of (HandoverRequest channel encryption classmark serving target) = Some target
target_of (HandoverRequired cause response cells) = None
target_of (HandoverRequestAck layer3) = None
target_of (HandoverCommand layer3) = None
target_of (HandoverComplete rr) = None
target_of (HandoverFailure cause rr) = None
target_of (HandoverPerformed cause cell) = None
target_of (HandoverRequiredReject cause) = None
target_of HandoverDetect = None
target_of (ClearCommand cause) = None
target_of ClearComplete = None
target_of (ClearRequest cause) = None
