-- Octets have one reading.
use Rattle.std.proofs.Common.{IfOk, IfErr, ◌≢◌, ◌≡◌, ℕ, List, Result, Ok, Err, refl, sym, ◌∙◌, ap, subst, inl, inr}
use Rattle.octet_elements.specs.Elements.{Element, Forms, AreElements, AreTorn, IsTornAt, Fits, all_octets}
use Rattle.std.specs.List.{AllByRecursion}
use Rattle.octet_elements.specs.Lookup.{values_in}
use Rattle.octet_elements.specs.Texts.{Codec, Says, IsTextOf, Decodes, Answers, GoesWith, HasBodyFault, HasFault, ReadingIsUnique, HeadsAreUnique}
use Rattle.octet_elements.specs.declared.values.ValueFault.{ValueFault}
use Rattle.octet_elements.proofs.Splits.{same_elements, whole_not_torn, same_tear, AreFixed, same_written}

-- a body says one thing
one_saying : {Kind V F : Type 0} (c : Codec Kind V F) (j k : Kind) (x y : List ℕ) (a b : Result V ValueFault) → j ≡ k → x ≡ y → Says c j x a → Says c k y b → a ≡ b
one_saying c j k x y a b kinds bodies h g =
    let split : AreElements c.forms g.elements x = subst (λ z. AreElements c.forms g.elements z) (sym bodies) g.split in
    let elements = same_elements c.forms h.elements g.elements x h.split split in
    sym h.says ∙ (λ i. c.said (kinds i) (values_in (elements i))) ∙ g.says

one_value : {Kind V F : Type 0} (c : Codec Kind V F) → HeadsAreUnique c → (v w : V) (octets : List ℕ) → IsTextOf c v octets → IsTextOf c w octets → v ≡ w
one_value c heads v w octets h g =
    let same = heads.head h.kind g.kind octets h.body g.body h.head g.head in
    let said = one_saying c h.kind g.kind h.body g.body (Ok v) (Ok w) same.0 same.1 h.says g.says in cc

whole_or_torn : (forms : Forms) (elements : List Element) (x y : List ℕ) (at : ℕ) → x ≡ y → AreElements forms elements x → IsTornAt forms y at → ⊥
whole_or_torn forms elements x y at same split (es, rest, torn, is) =
    whole_not_torn forms elements es rest y (subst (λ z. AreElements forms elements z) same split) torn

one_tear : (forms : Forms) (x y : List ℕ) (m n : ℕ) → x ≡ y → IsTornAt forms x m → IsTornAt forms y n → m ≡ n
one_tear forms x y m n same (es, a, torn, at) (fs, b, again, there) =
    at ∙ same_tear forms es fs a b x torn (subst (λ z. AreTorn forms fs b z) (sym same) again) ∙ sym there

no_body_fault : {Kind V F : Type 0} (c : Codec Kind V F) (j k : Kind) (x y : List ℕ) (v : V) (f : F) → j ≡ k → x ≡ y → Says c j x (Ok v) → HasBodyFault c k y f → f ≡ c.no_memory
no_body_fault c j k x y v f kinds bodies h (inl (at, torn, is)) = absurd (whole_or_torn c.forms h.elements x y at bodies h.split torn)
no_body_fault c j k x y v f kinds bodies h (inr (Ok w, says, by)) = by.0
no_body_fault c j k x y v f kinds bodies h (inr (Err e, says, by)) =
    let said = one_saying c j k x y (Ok v) (Err e) kinds bodies h says in absurd cc

no_fault : {Kind V F : Type 0} (c : Codec Kind V F) → HeadsAreUnique c → (v : V) (octets : List ℕ) (f : F) → IsTextOf c v octets → HasFault c octets f → f ≡ c.no_memory
no_fault c heads v octets f h (inl bad) = absurd (heads.either octets f h.kind h.body bad h.head)
no_fault c heads v octets f h (inr (kind, body, head, fault)) =
    let same = heads.head h.kind kind octets h.body body h.head head in
    no_body_fault c h.kind kind h.body body v f same.0 same.1 h.says fault

one_by : {Kind V F : Type 0} (c : Codec Kind V F) (said : Result V ValueFault) (f g : F) → GoesWith c said f → GoesWith c said g → f ≡ g
one_by c (Ok v) f g p q = p.0 ∙ sym q.0
one_by c (Err e) f g p q = p ∙ sym q

one_body_fault : {Kind V F : Type 0} (c : Codec Kind V F) (j k : Kind) (x y : List ℕ) (f g : F) → j ≡ k → x ≡ y → HasBodyFault c j x f → HasBodyFault c k y g → f ≡ g
one_body_fault c j k x y f g kinds bodies (inl (m, torn, is)) (inl (n, again, was)) = is ∙ ap c.torn (one_tear c.forms x y m n bodies torn again) ∙ sym was
one_body_fault c j k x y f g kinds bodies (inl (m, torn, is)) (inr (said, says, by)) = absurd (whole_or_torn c.forms says.elements y x m (sym bodies) says.split torn)
one_body_fault c j k x y f g kinds bodies (inr (said, says, by)) (inl (n, torn, is)) = absurd (whole_or_torn c.forms says.elements x y n bodies says.split torn)
one_body_fault c j k x y f g kinds bodies (inr (said, says, by)) (inr (other, also, that)) =
    one_by c said f g by (subst (λ s. GoesWith c s g) (sym (one_saying c j k x y said other kinds bodies says also)) that)

one_fault : {Kind V F : Type 0} (c : Codec Kind V F) → HeadsAreUnique c → (octets : List ℕ) (f g : F) → HasFault c octets f → HasFault c octets g → f ≡ g
one_fault c heads octets f g (inl p) (inl q) = heads.fault octets f g p q
one_fault c heads octets f g (inl p) (inr (kind, body, head, fault)) = absurd (heads.either octets f kind body p head)
one_fault c heads octets f g (inr (kind, body, head, fault)) (inl q) = absurd (heads.either octets g kind body q head)
one_fault c heads octets f g (inr (j, x, head, fault)) (inr (k, y, other, also)) =
    let same = heads.head j k octets x y head other in
    one_body_fault c j k x y f g same.0 same.1 fault also

pub reading_is_unique : {Kind V F : Type 0} (c : Codec Kind V F) → HeadsAreUnique c → ReadingIsUnique c
reading_is_unique c heads = record { value = one_value c heads; text = no_fault c heads; fault = one_fault c heads }

-- A decoder that answers a text's value or the octets' fault reads each text, unless memory was refused.
pub exactly : {Kind V F : Type 0} (c : Codec Kind V F) → HeadsAreUnique c → (r : Result V F) (octets : List ℕ) (v : V) → IfOk r (λ w. IsTextOf c w octets) → IfErr r (HasFault c octets) → IsTextOf c v octets → r ≢ Err c.no_memory → r ≡ Ok v
exactly c heads (Ok w) octets v text fault h memory = ap Ok (one_value c heads w v octets text h)
exactly c heads (Err f) octets v text fault h memory = absurd (memory (ap Err (no_fault c heads v octets f h fault)))

-- what answers to whole elements answers to the body
pub text_answered : {Kind V F : Type 0} (c : Codec Kind V F) (kind : Kind) (body : List ℕ) (es : List Element) (r : Result V F) → AreElements c.forms es body → Answers c r (c.said kind (values_in es)) → IfOk r (λ v. Says c kind body (Ok v))
text_answered c kind body es (Ok v) split h = record { elements = es; split = split; says = h }
text_answered c kind body es (Err f) split h = tt

pub fault_answered : {Kind V F : Type 0} (c : Codec Kind V F) (kind : Kind) (body : List ℕ) (es : List Element) (r : Result V F) → AreElements c.forms es body → Answers c r (c.said kind (values_in es)) → IfErr r (HasBodyFault c kind body)
fault_answered c kind body es (Ok v) split h = tt
fault_answered c kind body es (Err f) split h = inr (c.said kind (values_in es), record { elements = es; split = split; says = refl }, h)

-- The body that was written for some elements says a value only if they fit and say it.
pub written_says : {Kind V F : Type 0} (c : Codec Kind V F) (j k : Kind) (body : List ℕ) (es : List Element) (v : V) → j ≡ k → body ≡ all_octets c.forms es → AreFixed c.forms es → Says c j body (Ok v) → AllByRecursion (Fits c.forms) es × (c.said k (values_in es) ≡ Ok v)
written_says c j k body es v kinds bodies fixed h =
    let same = same_written c.forms es h.elements fixed h.split.each (sym bodies ∙ h.split.spelling) in
    (subst (AllByRecursion (Fits c.forms)) (sym same) h.split.each, (λ i. c.said (sym kinds i) (values_in (same i))) ∙ h.says)

-- memory is refused only for a text whose value keeps a list
pub refused : {Kind V F : Type 0} (c : Codec Kind V F) (octets : List ℕ) → (c.HasHeadFault octets c.no_memory → ⊥) → ((at : ℕ) → c.no_memory ≢ c.torn at) → ((e : ValueFault) → c.no_memory ≢ c.fault_of e) → HasFault c octets c.no_memory → (v : V) × IsTextOf c v octets × c.KeepsList v
refused c octets early torn fault (inl bad) = absurd (early bad)
refused c octets early torn fault (inr (kind, body, head, inl (at, is, same))) = absurd (torn at same)
refused c octets early torn fault (inr (kind, body, head, inr (Ok v, says, by))) = (v, record { kind = kind; body = body; head = head; says = says }, by.1)
refused c octets early torn fault (inr (kind, body, head, inr (Err e, says, by))) = absurd (fault e by)

-- A decoder that answers a text's value or the octets' fault does all that a decoder is to do.
pub decoded : {Kind V F : Type 0} (c : Codec Kind V F) → HeadsAreUnique c → (octets : List ℕ) (r : Result V F) → (c.HasHeadFault octets c.no_memory → ⊥) → ((at : ℕ) → c.no_memory ≢ c.torn at) → ((e : ValueFault) → c.no_memory ≢ c.fault_of e) → IfOk r (λ v. IsTextOf c v octets) → IfErr r (HasFault c octets) → Decodes c octets r
decoded c heads octets r early torn by_value text fault = record {
  text = text;
  exact = λ v h memory. exactly c heads r octets v text fault h memory;
  fault = fault;
  memory = λ memory. refused c octets early torn by_value (subst (λ r. IfErr r (HasFault c octets)) memory fault);
}
