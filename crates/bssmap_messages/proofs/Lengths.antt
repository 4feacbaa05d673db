-- How many octets elements have.
use Rattle.std.proofs.Common.{◌≡◌, ℕ, ◌+◌, ◌*◌, ◌<◌, List, [], ◌∷◌, ◌++◌, length, length-append, flat_map, Bool, true, false, refl, sym, ◌∙◌, ap, arith, append_assoc, append-nil}
use Rattle.octet_elements.specs.Elements.{Fits, all_octets, element_octets}
use Rattle.bssmap_messages.specs.declared.message.CellId.{CellId}
use Rattle.bssmap_messages.specs.declared.message.Classmark.{Classmark}
use Rattle.bssmap_messages.specs.declared.message.Classmark.TheVariants.{One, Two}
use Rattle.bssmap_messages.specs.Forms.{interface_a}
use Rattle.bssmap_messages.specs.Forms.{CAUSE, CELL_IDENTIFIER, CELL_IDENTIFIER_LIST, CHANNEL_TYPE, ENCRYPTION_INFORMATION, RESPONSE_REQUEST}
use Rattle.bssmap_messages.specs.Values.{cell_octets, cell_value, cells_value, classmark_element}
use Rattle.octet_elements.specs.Values.{where_true}

pub cells_length : (cells : List CellId) → length (flat_map cell_octets cells) ≡ 4 * length cells
cells_length [] = refl
cells_length (cell ∷ cells) = let rest = cells_length cells in omega arith

own_length : {A : Type 0} (channel encryption : List ℕ) (classmark : Classmark A) (serving target : CellId) → length (all_octets interface_a ((CHANNEL_TYPE, channel) ∷ (ENCRYPTION_INFORMATION, encryption) ∷ classmark_element classmark ∷ (CELL_IDENTIFIER, cell_value serving) ∷ (CELL_IDENTIFIER, cell_value target) ∷ [])) ≡ 18 + length channel + length encryption + length (element_octets interface_a (classmark_element classmark))
own_length channel encryption (One octet) serving target = simp length-append (omega arith)
own_length channel encryption (Two v) serving target = simp length-append (omega arith)

-- channel and encryption are what they are equal to
pub request_length : {A : Type 0} (channel encryption : List ℕ) (classmark : Classmark A) (serving target : CellId) (v w : List ℕ) → v ≡ channel → w ≡ encryption → length (all_octets interface_a ((CHANNEL_TYPE, channel) ∷ (ENCRYPTION_INFORMATION, encryption) ∷ classmark_element classmark ∷ (CELL_IDENTIFIER, cell_value serving) ∷ (CELL_IDENTIFIER, cell_value target) ∷ [])) ≡ 18 + length v + length w + length (element_octets interface_a (classmark_element classmark))
request_length channel encryption classmark serving target v w same alike = own_length channel encryption classmark serving target ∙ (λ i. 18 + length (sym same i) + length (sym alike i) + length (element_octets interface_a (classmark_element classmark)))

pub required_length : (cause : ℕ) (response : Bool) (cells : List CellId) → length (all_octets interface_a ((CAUSE, cause ∷ []) ∷ where_true RESPONSE_REQUEST response ++ (CELL_IDENTIFIER_LIST, cells_value cells) ∷ [])) ≡ 6 + length (all_octets interface_a (where_true RESPONSE_REQUEST response)) + 4 * length cells
required_length cause true cells = let all = cells_length cells in simp length-append (omega arith)
required_length cause false cells = let all = cells_length cells in simp length-append (omega arith)

-- an element of a classmark that is short can be spelled
pub classmark_fits : {A : Type 0} (classmark : Classmark A) → length (element_octets interface_a (classmark_element classmark)) < 256 → Fits interface_a (classmark_element classmark)
classmark_fits (One octet) short = refl
classmark_fits (Two v) short = omega arith

-- octets that were appended one after the other
pub five_appended : (o p q r s t a b c d e : List ℕ) → p ≡ o ++ a → q ≡ p ++ b → r ≡ q ++ c → s ≡ r ++ d → t ≡ s ++ e → t ≡ o ++ (a ++ (b ++ (c ++ (d ++ (e ++ [])))))
five_appended o p q r s t a b c d e first second third fourth fifth =
    fifth ∙ ap (λ x. x ++ e) (fourth ∙ ap (λ x. x ++ d) (third ∙ ap (λ x. x ++ c) (second ∙ ap (λ x. x ++ b) first))) ∙ regroup
  where
    regroup : ((((o ++ a) ++ b) ++ c) ++ d) ++ e ≡ o ++ (a ++ (b ++ (c ++ (d ++ (e ++ [])))))
    regroup = simp (append_assoc, append-nil)

pub required_appended : (o p q r s : List ℕ) (cause n : ℕ) (response : Bool) (cells : List CellId) → p ≡ o ++ (4 ∷ 1 ∷ cause ∷ []) → q ≡ p ++ all_octets interface_a (where_true RESPONSE_REQUEST response) → r ≡ q ++ (26 ∷ n ∷ 1 ∷ []) → s ≡ r ++ flat_map cell_octets cells → n ≡ 1 + 4 * length cells → s ≡ o ++ all_octets interface_a ((CAUSE, cause ∷ []) ∷ where_true RESPONSE_REQUEST response ++ (CELL_IDENTIFIER_LIST, cells_value cells) ∷ [])
required_appended o p q r s cause n response cells first second third fourth count =
    fourth ∙ ap (λ x. x ++ flat_map cell_octets cells) (third ∙ ap (λ x. x ++ (26 ∷ n ∷ 1 ∷ [])) (second ∙ ap (λ x. x ++ all_octets interface_a (where_true RESPONSE_REQUEST response)) first)) ∙ regroup response
  where
    number : n ≡ length (1 ∷ flat_map cell_octets cells)
    number = let long = cells_length cells in omega arith

    regroup : (response : Bool) → (((o ++ (4 ∷ 1 ∷ cause ∷ [])) ++ all_octets interface_a (where_true RESPONSE_REQUEST response)) ++ (26 ∷ n ∷ 1 ∷ [])) ++ flat_map cell_octets cells ≡ o ++ all_octets interface_a ((CAUSE, cause ∷ []) ∷ where_true RESPONSE_REQUEST response ++ (CELL_IDENTIFIER_LIST, cells_value cells) ∷ [])
    regroup true = simp (append_assoc, append-nil) (ap (λ m. o ++ (4 ∷ 1 ∷ cause ∷ 27 ∷ 26 ∷ m ∷ 1 ∷ flat_map cell_octets cells)) number)
    regroup false = simp (append_assoc, append-nil) (ap (λ m. o ++ (4 ∷ 1 ∷ cause ∷ 26 ∷ m ∷ 1 ∷ flat_map cell_octets cells)) number)
