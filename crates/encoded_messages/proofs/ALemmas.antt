-- Facts of the messages on A that texts say: whatever the allocator, a text says the same, and when that can be written.
use Rattle.std.proofs.Common.{◌≡◌, ℕ, ◌+◌, ◌≤◌, ◌∷◌, ◌↔◌, ◌≢◌, ◌==◌, Bool, true, false, if◌then◌else◌, List, [], length, codes, Option, Some, None, length-append, option_and_then, option_map, IsSome, nat_le, Ok, Err, is_some, is_ok, refl, sym, subst, ap, ◌∙◌, arith, inl, inr}
use Rattle.std.specs.Prelude.{bytes_eq}
use Rattle.std.specs.List.{list_all}
use Rattle.std.specs.Result.{result_ok}
use Rattle.std.proofs.lemmas.Bool.{cases_Bool}
use Rattle.std.proofs.lemmas.Bool.Decides.{nat_tests}
use Rattle.std.proofs.lemmas.List.Splits.{length-slice_split}
use Rattle.bssmap_messages.specs.declared.message.CellId.{CellId}
use Rattle.bssmap_messages.specs.declared.message.Classmark.{Classmark}
use Rattle.bssmap_messages.specs.declared.message.Classmark.TheVariants.{One, Two}
use Rattle.bssmap_messages.specs.declared.message.Bssmap.{Bssmap}
use Rattle.bssmap_messages.specs.declared.message.Bssmap.TheVariants.{HandoverRequest, HandoverRequired, HandoverRequestAck, HandoverCommand, HandoverComplete, HandoverFailure, HandoverPerformed, HandoverRequiredReject, HandoverDetect, ClearCommand, ClearComplete, ClearRequest}
use Rattle.bssmap_messages.specs.Messages as table
use Rattle.bssmap_messages.specs.Texts.{HasCanonical, canonical_text}
use Rattle.bssmap_messages.proofs.Lengths.{request_length, required_length}
use Rattle.bssmap_messages.proofs.Written.{writable, writable_of}
use Rattle.encoded_messages.specs.declared.field_fault.Allowed.TheVariants as may
use Rattle.encoded_messages.specs.FieldFaults.{Read as FieldRead, ◌>>=◌, read_map}
use Rattle.encoded_messages.specs.Faults.{Fault, Read, in_fields}
use Rattle.encoded_messages.specs.Fields.{name_of, fields_of, only_keys, cause_at, flag_at, optional_octet_at, octets_at}
use Rattle.encoded_messages.specs.Words.{parts_of}
use Rattle.encoded_messages.specs.Values as value
use Rattle.encoded_messages.specs.A.{cell_of, cell_at, cells_of, cells_at, classmark_of, classmark_at, classmark_len, request_cells, request_keys, handover_request, handover_required, layer3_alone, handover_complete, handover_failure, handover_performed, cause_alone, no_fields, short_message, message_of, message_in, can_be_written, can_be_written_of, can_be_written_in, octets_of_message, octets_said, short_layer3}
use Rattle.encoded_messages.proofs.ReadLemmas.{Alike, after, past, made, after_made, chosen, of_fields, weaker, both_read, behind, field_said, octets_long}

-- a classmark and a message, their lists from no allocator
abbrev bare_classmark : {A : Type 0} → Classmark A → Classmark Unit
bare_classmark (One octet) = One octet
bare_classmark (Two octets) = Two octets

abbrev bare : {A : Type 0} → Bssmap A → Bssmap Unit
bare (HandoverRequest channel encryption classmark serving target) = HandoverRequest channel encryption (bare_classmark classmark) serving target
bare (HandoverRequired cause response cells) = HandoverRequired cause response cells
bare (HandoverRequestAck layer3) = HandoverRequestAck layer3
bare (HandoverCommand layer3) = HandoverCommand layer3
bare (HandoverComplete rr) = HandoverComplete rr
bare (HandoverFailure cause rr) = HandoverFailure cause rr
bare (HandoverPerformed cause cell) = HandoverPerformed cause cell
bare (HandoverRequiredReject cause) = HandoverRequiredReject cause
bare HandoverDetect = HandoverDetect
bare (ClearCommand cause) = ClearCommand cause
bare ClearComplete = ClearComplete
bare (ClearRequest cause) = ClearRequest cause

-- their fields are as a text can say them
abbrev IsRead : {A : Type 0} → Classmark A → Type 0
IsRead (One octet) = Unit {0}
IsRead (Two octets) = length octets ≢ 1

abbrev HaveAreas : List CellId → Type 0
HaveAreas cells = list_all (λ cell. is_some cell.lac) cells ≡ true

abbrev AreRead : {A : Type 0} → Bssmap A → Type 0
AreRead (HandoverRequest channel encryption classmark serving target) = (2 ≤ length channel) × (1 ≤ length encryption) × IsRead classmark × IsSome serving.lac × IsSome target.lac
AreRead (HandoverRequired cause response cells) = (1 ≤ length cells) × HaveAreas cells
AreRead (HandoverRequestAck layer3) = 1 ≤ length layer3
AreRead (HandoverCommand layer3) = 1 ≤ length layer3
AreRead (HandoverComplete rr) = Unit {0}
AreRead (HandoverFailure cause rr) = Unit {0}
AreRead (HandoverPerformed cause cell) = IsSome cell.lac
AreRead (HandoverRequiredReject cause) = Unit {0}
AreRead HandoverDetect = Unit {0}
AreRead (ClearCommand cause) = Unit {0}
AreRead ClearComplete = Unit {0}
AreRead (ClearRequest cause) = Unit {0}

-- one is the other without octets, and its fields are so
abbrev Same : {A : Type 0} → Bssmap A → Bssmap Unit → Type 0
Same v w = (w ≡ bare v) × AreRead v

-- and which can be written
abbrev Short : {A : Type 0} → Bssmap A → Bssmap Unit → Type 0
Short v w = (w ≡ bare v) × AreRead v × (can_be_written w ≡ true)

-- a cell that a text says has a location area
area_of : (o : Option (ℕ × ℕ)) (cell : CellId) → option_map {U = CellId} (λ cell. record { lac = Some cell.0; ci = cell.1 }) o ≡ Some cell → IsSome cell.lac
area_of None cell h = absurd cc
area_of (Some found) cell h = let same : record { lac = Some found.0; ci = found.1 } ≡ cell = cc in subst (λ (c : CellId). IsSome c.lac) same refl

has_area : (key fields : List ℕ) (cell : CellId) → cell_at key fields ≡ Ok cell → IsSome cell.lac
unfolding cell_at
has_area key fields cell h =
    let (text, said) = field_said may.Cell cell_of key fields cell h in
    area_of (value.cell_of text) cell said

-- and so have those of a list, which has a cell for each part
joined : (n : ℕ) (o : Option CellId) (p : Option (List CellId)) (cells : List CellId) → ((cell : CellId) → o ≡ Some cell → IsSome cell.lac)
    → ((more : List CellId) → p ≡ Some more → (length more ≡ n) × HaveAreas more) → option_and_then (λ cell. option_map (λ cells. cell ∷ cells) p) o ≡ Some cells → (length cells ≡ n + 1) × HaveAreas cells
joined n None p cells area areas h = absurd cc
joined n (Some cell) None cells area areas h = absurd cc
joined n (Some cell) (Some more) cells area areas h =
    let all : cell ∷ more ≡ cells = cc in
    let (count, rest) = areas more refl in
    let some = area cell refl in
    let both : HaveAreas (cell ∷ more) = grind (arith, some, rest) in
    (omega (arith, ap length all, count), subst HaveAreas all both)

areas_of : (parts : List (List ℕ)) (cells : List CellId) → cells_of parts ≡ Some cells → (length cells ≡ length parts) × HaveAreas cells
areas_of [] cells h = let none : [] ≡ cells = cc in (ap length (sym none), subst HaveAreas none refl)
areas_of (part ∷ parts) cells h =
    let (count, areas) = joined (length parts) (cell_of part) (cells_of parts) cells (λ cell d. area_of (value.cell_of part) cell d) (λ more e. areas_of parts more e) h in
    (omega (arith, count), areas)

have_areas : (fields : List ℕ) (cells : List CellId) → cells_at fields ≡ Ok cells → (1 ≤ length cells) × HaveAreas cells
unfolding cells_at
have_areas fields cells h =
    let (text, said) = field_said may.Cells (λ value. cells_of (parts_of value)) (codes "cells") fields cells h in
    let (count, areas) = areas_of (parts_of text) cells said in
    (omega (arith, count, length-slice_split (λ b. b == 44) text), areas)

both_have_areas : (fields : List ℕ) (cells : CellId × CellId) → request_cells fields ≡ Ok cells → IsSome cells.0.lac × IsSome cells.1.lac
unfolding request_cells
both_have_areas fields cells h =
    let (serving, first, more) = both_read (cell_at (codes "serving") fields) (λ serving. cell_at (codes "target") fields >>= (λ target. Ok (serving, target))) cells h in
    let (target, second, is) = both_read (cell_at (codes "target") fields) (λ target. Ok (serving, target)) cells more in
    let same : (serving, target) ≡ cells = cc in
    subst (λ (c : CellId × CellId). IsSome c.0.lac × IsSome c.1.lac) same (has_area (codes "serving") fields serving first, has_area (codes "target") fields target second)

layer3_long : (fields layer3 : List ℕ) → layer3_alone fields ≡ Ok layer3 → 1 ≤ length layer3
unfolding layer3_alone
layer3_long fields layer3 h = octets_long 1 (codes "layer3") fields layer3 (behind (only_keys (codes "layer3" ∷ []) fields) (octets_at 1 (codes "layer3") fields) layer3 h)

-- A classmark of one octet is of type 1.
is_read : (A : Type 0) (octets : List ℕ) → IsRead (classmark_of {A = A} octets)
is_read A [] = omega arith
is_read A (octet ∷ []) = tt
is_read A (octet ∷ next ∷ octets) = omega arith

same_classmark : (A : Type 0) (octets : List ℕ) → classmark_of octets ≡ bare_classmark (classmark_of {A = A} octets)
same_classmark A [] = refl
same_classmark A (octet ∷ []) = refl
same_classmark A (octet ∷ next ∷ octets) = refl

pub classmark_octets : (octets : List ℕ) → classmark_len (classmark_of {A = Unit} octets) ≡ length octets
classmark_octets [] = refl
classmark_octets (octet ∷ []) = refl
classmark_octets (octet ∷ next ∷ octets) = refl

-- Fields say the same message, and one that can be read.
request_alike : (A : Type 0) (fields : List ℕ) → Alike (Same {A = A}) (handover_request fields) (handover_request fields)
unfolding handover_request classmark_at
request_alike A fields =
    past Same (only_keys request_keys fields) _ _ (after Same (octets_at 2 (codes "channel") fields) _ _ (λ channel wide.
    after Same (octets_at 1 (codes "encryption") fields) _ _ (λ encryption some.
    after_made Same classmark_of classmark_of (octets_at 0 (codes "classmark") fields) _ _ (λ octets _.
    after Same (request_cells fields) _ _ (λ cells are.
    let areas = both_have_areas fields cells are in
    (ap (λ classmark. HandoverRequest channel encryption classmark cells.0 cells.1) (same_classmark A octets), (octets_long 2 (codes "channel") fields channel wide, octets_long 1 (codes "encryption") fields encryption some, is_read A octets, areas.0, areas.1)))))))

required_alike : (A : Type 0) (fields : List ℕ) → Alike (Same {A = A}) (handover_required fields) (handover_required fields)
unfolding handover_required
required_alike A fields =
    past Same (only_keys (codes "cause" ∷ codes "response" ∷ codes "cells" ∷ []) fields) _ _ (after Same (cause_at (codes "cause") fields) _ _ (λ cause _.
    after Same (flag_at (codes "response") fields) _ _ (λ response _.
    after Same (cells_at fields) _ _ (λ cells are. (refl, have_areas fields cells are)))))

complete_alike : (A : Type 0) (fields : List ℕ) → Alike (Short {A = A}) (handover_complete fields) (handover_complete fields)
unfolding handover_complete
complete_alike A fields =
    past Short (only_keys (codes "rr" ∷ []) fields) _ _ (after Short (optional_octet_at (codes "rr") fields) _ _ (λ rr _. (refl, tt, refl)))

failure_alike : (A : Type 0) (fields : List ℕ) → Alike (Short {A = A}) (handover_failure fields) (handover_failure fields)
unfolding handover_failure
failure_alike A fields =
    past Short (only_keys (codes "cause" ∷ codes "rr" ∷ []) fields) _ _ (after Short (cause_at (codes "cause") fields) _ _ (λ cause _.
    after Short (optional_octet_at (codes "rr") fields) _ _ (λ rr _. (refl, tt, refl))))

performed_alike : (A : Type 0) (fields : List ℕ) → Alike (Short {A = A}) (handover_performed fields) (handover_performed fields)
unfolding handover_performed
performed_alike A fields =
    past Short (only_keys (codes "cause" ∷ codes "cell" ∷ []) fields) _ _ (after Short (cause_at (codes "cause") fields) _ _ (λ cause _.
    after Short (cell_at (codes "cell") fields) _ _ (λ cell is. (refl, has_area (codes "cell") fields cell is, refl))))

detect_alike : (A : Type 0) (fields : List ℕ) → Alike (Short {A = A}) (no_fields fields HandoverDetect) (no_fields fields HandoverDetect)
unfolding no_fields
detect_alike A fields = past Short (only_keys [] fields) _ _ (refl, tt, refl)

cleared_alike : (A : Type 0) (fields : List ℕ) → Alike (Short {A = A}) (no_fields fields ClearComplete) (no_fields fields ClearComplete)
unfolding no_fields
cleared_alike A fields = past Short (only_keys [] fields) _ _ (refl, tt, refl)

-- So do a name and its fields.
short_alike : (A : Type 0) (name fields : List ℕ) → Alike (Short {A = A}) (short_message name fields) (short_message name fields)
unfolding short_message
short_alike A name fields =
    chosen Short (bytes_eq name (codes "HANDOVER COMPLETE")) _ _ _ _ (of_fields Short _ _ (complete_alike A fields)) (
    chosen Short (bytes_eq name (codes "HANDOVER FAILURE")) _ _ _ _ (of_fields Short _ _ (failure_alike A fields)) (
    chosen Short (bytes_eq name (codes "HANDOVER PERFORMED")) _ _ _ _ (of_fields Short _ _ (performed_alike A fields)) (
    chosen Short (bytes_eq name (codes "HANDOVER REQUIRED REJECT")) _ _ _ _ (of_fields Short _ _ (made Short _ _ (cause_alone fields) (λ cause _. (refl, tt, refl)))) (
    chosen Short (bytes_eq name (codes "HANDOVER DETECT")) _ _ _ _ (of_fields Short _ _ (detect_alike A fields)) (
    chosen Short (bytes_eq name (codes "CLEAR COMMAND")) _ _ _ _ (of_fields Short _ _ (made Short _ _ (cause_alone fields) (λ cause _. (refl, tt, refl)))) (
    chosen Short (bytes_eq name (codes "CLEAR COMPLETE")) _ _ _ _ (of_fields Short _ _ (cleared_alike A fields)) (
    chosen Short (bytes_eq name (codes "CLEAR REQUEST")) _ _ _ _ (of_fields Short _ _ (made Short _ _ (cause_alone fields) (λ cause _. (refl, tt, refl)))) refl)))))))

alike : (A : Type 0) (name fields : List ℕ) → Alike (Same {A = A}) (message_of name fields) (message_of name fields)
unfolding message_of
alike A name fields =
    chosen Same (bytes_eq name (codes "HANDOVER REQUEST")) _ _ _ _ (of_fields Same _ _ (request_alike A fields)) (
    chosen Same (bytes_eq name (codes "HANDOVER REQUIRED")) _ _ _ _ (of_fields Same _ _ (required_alike A fields)) (
    chosen Same (bytes_eq name (codes "HANDOVER REQUEST ACKNOWLEDGE")) _ _ _ _ (of_fields Same _ _ (made Same _ _ (layer3_alone fields) (λ layer3 is. (refl, layer3_long fields layer3 is)))) (
    chosen Same (bytes_eq name (codes "HANDOVER COMMAND")) _ _ _ _ (of_fields Same _ _ (made Same _ _ (layer3_alone fields) (λ layer3 is. (refl, layer3_long fields layer3 is)))) (
    weaker Short Same (λ v w h. (h.0, h.1)) _ _ (short_alike A name fields)))))

-- What is read can be written just where it has a canonical text.
request_written : {A : Type 0} (channel encryption : List ℕ) (classmark : Classmark A) (serving target : CellId) → AreRead (HandoverRequest channel encryption classmark serving target)
    → (can_be_written (HandoverRequest channel encryption classmark serving target) ≡ true) ↔ HasCanonical (HandoverRequest channel encryption classmark serving target)
unfolding table.handover_request
request_written {A = A} channel encryption (One octet) serving target h =
    let message = HandoverRequest channel encryption (One octet) serving target in
    let long = request_length {A = A} channel encryption (One octet) serving target channel encryption refl refl in
    (λ t. writable message (h.0, h.1, h.3, h.4) (grind (arith, nat_tests, long, t)), λ text. let w = writable_of message text in grind (arith, nat_tests, long, w.1))
request_written {A = A} channel encryption (Two octets) serving target h =
    let message = HandoverRequest channel encryption (Two octets) serving target in
    let long = request_length {A = A} channel encryption (Two octets) serving target channel encryption refl refl in
    (λ t. writable message (h.0, h.1, h.3, h.4) (grind (arith, nat_tests, long, t)), λ text. let w = writable_of message text in grind (arith, nat_tests, long, w.1))

written : {A : Type 0} (v : Bssmap A) → AreRead v → (can_be_written v ≡ true) ↔ HasCanonical v
unfolding table.handover_required table.layer_3_alone table.handover_complete table.handover_failure table.handover_performed table.cause_alone
written (HandoverRequest channel encryption classmark serving target) h = request_written channel encryption classmark serving target h
written (HandoverRequired cause true cells) h =
    let message = HandoverRequired cause true cells in
    let long = required_length cause true cells in
    (λ t. writable message h (grind (arith, nat_tests, long, t)), λ text. let w = writable_of message text in grind (arith, nat_tests, long, w.1))
written (HandoverRequired cause false cells) h =
    let message = HandoverRequired cause false cells in
    let long = required_length cause false cells in
    (λ t. writable message h (grind (arith, nat_tests, long, t)), λ text. let w = writable_of message text in grind (arith, nat_tests, long, w.1))
written (HandoverRequestAck layer3) h = let message = HandoverRequestAck layer3 in let long = length-append layer3 [] in
    (λ t. writable message h (grind (arith, nat_tests, long, t)), λ text. let w = writable_of message text in grind (arith, nat_tests, long, w.1))
written (HandoverCommand layer3) h = let message = HandoverCommand layer3 in let long = length-append layer3 [] in
    (λ t. writable message h (grind (arith, nat_tests, long, t)), λ text. let w = writable_of message text in grind (arith, nat_tests, long, w.1))
written (HandoverComplete None) h = (λ _. writable (HandoverComplete None) h (omega arith), λ _. refl)
written (HandoverComplete (Some rr)) h = (λ _. writable (HandoverComplete (Some rr)) h (omega arith), λ _. refl)
written (HandoverFailure cause None) h = (λ _. writable (HandoverFailure cause None) h (omega arith), λ _. refl)
written (HandoverFailure cause (Some rr)) h = (λ _. writable (HandoverFailure cause (Some rr)) h (omega arith), λ _. refl)
written (HandoverPerformed cause cell) h = (λ _. writable (HandoverPerformed cause cell) h (omega arith), λ _. refl)
written (HandoverRequiredReject cause) h = (λ _. writable (HandoverRequiredReject cause) h (omega arith), λ _. refl)
written HandoverDetect h = (λ _. writable HandoverDetect h (omega arith), λ _. refl)
written (ClearCommand cause) h = (λ _. writable (ClearCommand cause) h (omega arith), λ _. refl)
written ClearComplete h = (λ _. writable ClearComplete h (omega arith), λ _. refl)
written (ClearRequest cause) h = (λ _. writable (ClearRequest cause) h (omega arith), λ _. refl)

same_octets : {A : Type 0} (v : Bssmap A) → octets_of_message (bare v) ≡ octets_of_message v
unfolding table.handover_request
same_octets (HandoverRequest channel encryption (One octet) serving target) = refl
same_octets (HandoverRequest channel encryption (Two octets) serving target) = refl
same_octets (HandoverRequired cause response cells) = refl
same_octets (HandoverRequestAck layer3) = refl
same_octets (HandoverCommand layer3) = refl
same_octets (HandoverComplete rr) = refl
same_octets (HandoverFailure cause rr) = refl
same_octets (HandoverPerformed cause cell) = refl
same_octets (HandoverRequiredReject cause) = refl
same_octets HandoverDetect = refl
same_octets (ClearCommand cause) = refl
same_octets ClearComplete = refl
same_octets (ClearRequest cause) = refl

-- the octets of a message that is read twice
abbrev octets_read : Read (Bssmap Unit) → Option (List ℕ)
octets_read r = option_and_then octets_of_message (result_ok r)

abbrev of_test : {A : Type 0} (v : Bssmap A) → Bool → Option (List ℕ)
of_test v b = if b then Some (canonical_text v) else None

has_octets : {A : Type 0} (v : Bssmap A) (r : Read (Bssmap Unit)) → Alike Same (Ok v) r → HasCanonical v → octets_read r ≡ Some (canonical_text v)
has_octets v (Ok w) h canonical = ap octets_of_message h.0 ∙ same_octets v ∙ ap (of_test v) ((written v h.1).1 canonical)
has_octets v (Err e) h canonical = absurd h

has_none : {A : Type 0} (v : Bssmap A) (r : Read (Bssmap Unit)) → Alike Same (Ok v) r → (HasCanonical v → ⊥) → octets_read r ≡ None
has_none v (Ok w) h long = ap octets_of_message h.0 ∙ same_octets v ∙ elim (cases_Bool (can_be_written v)) [
  | inl e ↦ absurd (long ((written v h.1).0 e))
  | inr e ↦ ap (of_test v) e
]
has_none v (Err e) h long = absurd h

is_wrong : (A : Type 0) (e : Fault) (r : Read (Bssmap Unit)) → Alike (Same {A = A}) (Err e) r → octets_read r ≡ None
is_wrong A e (Ok w) h = absurd h
is_wrong A e (Err f) h = refl

-- the octets that a text says: those of its message, whatever the allocator
pub said_octets : {A : Type 0} (text : List ℕ) (v : Bssmap A) → message_in text ≡ Ok v → HasCanonical v → octets_said text ≡ Some (canonical_text v)
unfolding octets_said
said_octets text v h canonical = has_octets v (message_in text) (subst (λ r. Alike Same r (message_in text)) h (alike _ (name_of text) (fields_of text))) canonical

-- none where that is too long
pub said_too_long : {A : Type 0} (text : List ℕ) (v : Bssmap A) → message_in text ≡ Ok v → (HasCanonical v → ⊥) → octets_said text ≡ None
unfolding octets_said
said_too_long text v h long = has_none v (message_in text) (subst (λ r. Alike Same r (message_in text)) h (alike _ (name_of text) (fields_of text))) long

-- nor where it says no message
pub said_nothing : (A : Type 0) (text : List ℕ) (e : Fault) → message_in {A = A} text ≡ Err e → octets_said text ≡ None
unfolding octets_said
said_nothing A text e h = is_wrong A e (message_in text) (subst (λ r. Alike Same r (message_in text)) h (alike _ (name_of text) (fields_of text)))

tested : {A : Type 0} (v : Bssmap A) (b : Bool) → is_some (of_test v b) ≡ b
tested v true = refl
tested v false = refl

-- a text says octets just where its message can be written
pub says_octets : (text : List ℕ) → is_some (octets_said text) ≡ can_be_written_in (message_in text)
unfolding octets_said
says_octets text = by (message_in text)
  where
    by : (r : Read (Bssmap Unit)) → is_some (octets_read r) ≡ can_be_written_in r
    by (Ok v) = tested v (can_be_written v)
    by (Err e) = refl

-- what fields say is what a message of them does
pub written_of_fields : (r : FieldRead (Bssmap Unit)) → can_be_written_in (in_fields r) ≡ can_be_written_of r
written_of_fields (Ok v) = refl
written_of_fields (Err e) = refl

-- so is a message of layer 3 alone
pub written_of_layer3 : (r : FieldRead (List ℕ)) (message : List ℕ → Bssmap Unit) → ((layer3 : List ℕ) → can_be_written (message layer3) ≡ nat_le (length layer3) 250) → can_be_written_in (in_fields (read_map message r)) ≡ short_layer3 r
written_of_layer3 (Ok layer3) message h = h layer3
written_of_layer3 (Err e) message h = refl

-- a message without a list can always be written
fits_always : {A : Type 0} (r : Read (Bssmap A)) (s : Read (Bssmap Unit)) → Alike Short r s → is_ok r ≡ can_be_written_in s
fits_always (Ok v) (Ok w) h = sym h.2
fits_always (Ok v) (Err f) h = absurd h
fits_always (Err e) (Ok w) h = absurd h
fits_always (Err e) (Err f) h = refl

pub short_written : (A : Type 0) (name fields : List ℕ) → is_ok (short_message {A = A} name fields) ≡ can_be_written_in (short_message name fields)
short_written A name fields = fits_always _ _ (short_alike A name fields)

-- how many cells a list has, where each part is one
pub cells_counted : (parts : List (List ℕ)) → list_all (λ part. is_some (cell_of part)) parts ≡ true → option_map (λ cells. length cells) (cells_of parts) ≡ Some (length parts)
cells_counted [] h = refl
cells_counted (part ∷ parts) h =
    let one : is_some (cell_of part) ≡ true = grind (arith, h) in
    let more : list_all (λ part. is_some (cell_of part)) parts ≡ true = grind (arith, h, one) in
    by (cell_of part) (cells_of parts) one (cells_counted parts more)
  where
    by : (o : Option CellId) (p : Option (List CellId)) → is_some o ≡ true → option_map (λ cells. length cells) p ≡ Some (length parts)
        → option_map (λ cells. length cells) (option_and_then (λ cell. option_map (λ cells. cell ∷ cells) p) o) ≡ Some (length (part ∷ parts))
    by None p one h = absurd cc
    by (Some cell) None one h = absurd cc
    by (Some cell) (Some cells) one h = let same : length cells ≡ length parts = cc in ap Some (omega (arith, same))

-- none where one isn't
no_cells : (o : Option CellId) (p : Option (List CellId)) → (is_some o ≡ true → option_map (λ cells. length cells) p ≡ None) → option_map (λ cells. length cells) (option_and_then (λ cell. option_map (λ cells. cell ∷ cells) p) o) ≡ None
no_cells None p h = refl
no_cells (Some cell) None h = refl
no_cells (Some cell) (Some cells) h = let none : Some (length cells) ≡ None = h refl in absurd cc

pub cells_refused : (parts : List (List ℕ)) → list_all (λ part. is_some (cell_of part)) parts ≡ false → option_map (λ cells. length cells) (cells_of parts) ≡ None
cells_refused [] h = absurd cc
cells_refused (part ∷ parts) h = no_cells (cell_of part) (cells_of parts) (λ one. cells_refused parts (grind (arith, h, one)))
