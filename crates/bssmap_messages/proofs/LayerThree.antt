-- How long the layer 3 information is of a message that was read.
use Rattle.std.proofs.Common.{◌≡◌, ◌≢◌, ◌⊎◌, inl, inr, ℕ, ◌+◌, ◌<◌, ◌≤◌, List, [], ◌∷◌, length, length-append, Option, Some, None, Result, Ok, Err, true, false, refl, sym, subst, ◌∙◌, ap, cond, eqb, arith, IfSome}
use Rattle.std.proofs.lemmas.Bool.Decides.{eqb_tells}
use Rattle.octet_elements.specs.declared.form.Form.TheVariants.{Counted}
use Rattle.octet_elements.specs.declared.values.ValueFault.{ValueFault}
use Rattle.octet_elements.specs.Elements.{Element, octets_by_form, element_octets, all_octets, values_of, nth, first_of}
use Rattle.octet_elements.specs.Lookup.{Lookup, values_in}
use Rattle.octet_elements.specs.Values.{octets_in}
use Rattle.bssmap_messages.specs.declared.head.MessageKind.{MessageKind}
use Rattle.bssmap_messages.specs.declared.head.MessageKind.TheVariants as kind
use Rattle.bssmap_messages.specs.declared.message.Bssmap.{Bssmap}
use Rattle.bssmap_messages.specs.declared.message.Bssmap.TheVariants.{HandoverRequest, HandoverRequired, HandoverRequestAck, HandoverCommand, HandoverComplete, HandoverFailure, HandoverPerformed, HandoverRequiredReject, HandoverDetect, ClearCommand, ClearComplete, ClearRequest}
use Rattle.bssmap_messages.specs.Forms.{interface_a, LAYER_3_INFORMATION}
use Rattle.bssmap_messages.specs.Messages.{said, value_of, handover_request, handover_required, layer_3_alone, handover_complete, handover_failure, handover_performed, cause_alone}
use Rattle.bssmap_messages.specs.Texts.{IsTextOf}

-- the first element with the identifier, or one of the others
abbrev IsFirst : ℕ → Element → Type 0
IsFirst i e = ((eqb e.0 i ≡ true) × (e.0 ≡ i)) ⊎ ((eqb e.0 i ≡ false) × (e.0 ≢ i))

by_first : (i : ℕ) → interface_a i ≡ Counted → (e : Element) (es : List Element) (v : List ℕ) → IsFirst i e → first_of i (e ∷ es) ≡ Some v → (first_of i es ≡ Some v → 2 + length v ≤ length (all_octets interface_a es)) → 2 + length v ≤ length (all_octets interface_a (e ∷ es))
by_first i form e es v (inl same) h further =
    let is : Some e.1 ≡ Some v = sym (ap (λ b. nth 0 (cond b (e.1 ∷ values_of i es) (values_of i es))) same.0) ∙ h in
    let value : e.1 ≡ v = cc in
    let counted : length (element_octets interface_a e) ≡ length (octets_by_form Counted e.0 e.1) = ap (λ f. length (octets_by_form f e.0 e.1)) (ap interface_a same.1 ∙ form) in
    let own : length e.1 ≡ length v = ap length value in
    let all = length-append (element_octets interface_a e) (all_octets interface_a es) in
    omega arith
by_first i form e es v (inr other) h further =
    let rest : first_of i es ≡ Some v = sym (ap (λ b. nth 0 (cond b (e.1 ∷ values_of i es) (values_of i es))) other.0) ∙ h in
    let less = further rest in
    let all = length-append (element_octets interface_a e) (all_octets interface_a es) in
    omega arith

-- a value with a length octet is shorter than all elements by two octets at least
shorter : (i : ℕ) → interface_a i ≡ Counted → (es : List Element) (v : List ℕ) → first_of i es ≡ Some v → 2 + length v ≤ length (all_octets interface_a es)
shorter i form [] v h = absurd cc
shorter i form (e ∷ es) v h = by_first i form e es v (eqb_tells e.0 i) h (λ further. shorter i form es v further)

some_octets : (i : ℕ) (o : Option (List ℕ)) (v : List ℕ) → octets_in i o ≡ Ok v → (o ≡ Some v) × (0 < length v)
some_octets i None v h = absurd cc
some_octets i (Some []) v h = absurd cc
some_octets i (Some (octet ∷ w)) v h =
    let same : octet ∷ w ≡ v = cc in
    let long : length (octet ∷ w) ≡ length v = ap length same in (ap Some same, omega arith)

-- the layer 3 information of a message
abbrev pub layer_3_of : {A : Type 0} → Bssmap A → Option (List ℕ)
layer_3_of (HandoverRequest channel encryption classmark serving target) = None
layer_3_of (HandoverRequired cause response cells) = None
layer_3_of (HandoverRequestAck layer3) = Some layer3
layer_3_of (HandoverCommand layer3) = Some layer3
layer_3_of (HandoverComplete rr) = None
layer_3_of (HandoverFailure cause rr) = None
layer_3_of (HandoverPerformed cause cell) = None
layer_3_of (HandoverRequiredReject cause) = None
layer_3_of HandoverDetect = None
layer_3_of (ClearCommand cause) = None
layer_3_of ClearComplete = None
layer_3_of (ClearRequest cause) = None

-- what is made of what was read, is so of each that can be read
made : {X V : Type 0} (make : X → V) (P : V → Type 0) (r : Result X ValueFault) (v : V) → ((x : X) → r ≡ Ok x → P (make x)) → value_of make r ≡ Ok v → P v
made make P (Ok x) v each h = let same : make x ≡ v = cc in subst P same (each x refl)
made make P (Err e) v each h = absurd cc

-- its element says so
abbrev IsLayer3Of : {A : Type 0} → Lookup → Bssmap A → Type 0
IsLayer3Of found v = IfSome (layer_3_of v) (λ layer3. octets_in LAYER_3_INFORMATION (found.first LAYER_3_INFORMATION) ≡ Ok layer3)

-- a message is said by its layer 3 information, if it has any
said_by : {A : Type 0} (k : MessageKind) (found : Lookup) (v : Bssmap A) → said {A = A} k found ≡ Ok v → IsLayer3Of found v
unfolding layer_3_alone
said_by {A} kind.HandoverRequest found v h = made {V = Bssmap A} (λ (channel, (encryption, (classmark, (serving, target)))). HandoverRequest channel encryption classmark serving target) (IsLayer3Of found) (handover_request.read found) v (λ x r. tt) h
said_by {A} kind.HandoverRequired found v h = made {V = Bssmap A} (λ (cause, (response, cells)). HandoverRequired cause response cells) (IsLayer3Of found) (handover_required.read found) v (λ x r. tt) h
said_by {A} kind.HandoverRequestAck found v h = made {V = Bssmap A} HandoverRequestAck (IsLayer3Of found) (layer_3_alone.read found) v (λ x r. r) h
said_by {A} kind.HandoverCommand found v h = made {V = Bssmap A} HandoverCommand (IsLayer3Of found) (layer_3_alone.read found) v (λ x r. r) h
said_by {A} kind.HandoverComplete found v h = made {V = Bssmap A} HandoverComplete (IsLayer3Of found) (handover_complete.read found) v (λ x r. tt) h
said_by {A} kind.HandoverFailure found v h = made {V = Bssmap A} (λ (cause, rr). HandoverFailure cause rr) (IsLayer3Of found) (handover_failure.read found) v (λ x r. tt) h
said_by {A} kind.HandoverPerformed found v h = made {V = Bssmap A} (λ (cause, cell). HandoverPerformed cause cell) (IsLayer3Of found) (handover_performed.read found) v (λ x r. tt) h
said_by {A} kind.HandoverRequiredReject found v h = made {V = Bssmap A} HandoverRequiredReject (IsLayer3Of found) (cause_alone.read found) v (λ x r. tt) h
said_by {A} kind.HandoverDetect found v h = let same : HandoverDetect ≡ v = cc in subst (IsLayer3Of found) same tt
said_by {A} kind.ClearCommand found v h = made {V = Bssmap A} ClearCommand (IsLayer3Of found) (cause_alone.read found) v (λ x r. tt) h
said_by {A} kind.ClearComplete found v h = let same : ClearComplete ≡ v = cc in subst (IsLayer3Of found) same tt
said_by {A} kind.ClearRequest found v h = made {V = Bssmap A} ClearRequest (IsLayer3Of found) (cause_alone.read found) v (λ x r. tt) h

-- the element of a text is shorter than the text
within_text : {A : Type 0} (v : Bssmap A) (octets : List ℕ) (h : IsTextOf v octets) (o : Option (List ℕ)) → IfSome o (λ layer3. octets_in LAYER_3_INFORMATION (first_of LAYER_3_INFORMATION h.says.elements) ≡ Ok layer3) → IfSome o (λ layer3. (0 < length layer3) × (length layer3 ≤ 250))
within_text v octets h None says = tt
within_text v octets h (Some layer3) says =
    let value = some_octets LAYER_3_INFORMATION (first_of LAYER_3_INFORMATION h.says.elements) layer3 says in
    let less = shorter LAYER_3_INFORMATION refl h.says.elements layer3 value.0 in
    let body : length h.body ≡ length (all_octets interface_a h.says.elements) = ap length h.says.split.spelling in
    let within = h.head.within in
    (value.1, omega arith)

-- the layer 3 information of a message that was read has 1 to 250 octets
pub short_layer_3 : {A : Type 0} (v : Bssmap A) (octets : List ℕ) → IsTextOf {A = A} v octets → IfSome (layer_3_of v) (λ layer3. (0 < length layer3) × (length layer3 ≤ 250))
short_layer_3 {A} v octets h = within_text v octets h (layer_3_of v) (said_by {A = A} h.kind (values_in h.says.elements) v h.says.says)
