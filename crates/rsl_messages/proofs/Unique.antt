-- Octets begin with one head, or have one fault before the body.
use Rattle.std.proofs.Common.{◌≡◌, ◌⊎◌, ℕ, ◌+◌, ◌≤◌, ◌/◌, List, [], ◌∷◌, length, Some, refl, sym, ◌∙◌, subst, ap, arith, inl, inr}
use Rattle.octet_elements.specs.Texts.{HeadsAreUnique}
use Rattle.octet_elements.specs.declared.values.ValueFault.{ValueFault}
use Rattle.octet_elements.specs.declared.values.ValueFault.TheVariants.{Absent, Bad}
use Rattle.octet_elements.proofs.Texts.{reading_is_unique}
use Rattle.rsl_messages.specs.Values.{fault_of}
use Rattle.rsl_messages.specs.declared.message.Rsl.{Rsl}
use Rattle.rsl_messages.specs.declared.fault.RslFault.{RslFault}
use Rattle.rsl_messages.specs.declared.fault.RslFault.TheVariants as fault
use Rattle.rsl_messages.specs.declared.head.MessageKind.{MessageKind}
use Rattle.rsl_messages.specs.Heads.{IsDiscriminator, IsHead, Begins, HasHeadFault}
use Rattle.rsl_messages.specs.Texts.{codec, limit, HasEarlyFault, IsTextOf, HasFault}
use Rattle.rsl_messages.proofs.ByKind.{kind_at, found_at, discriminates}

-- octets begin with the head of one message
pub one_head : (j k : MessageKind) (octets x y : List ℕ) → Begins j octets x → Begins k octets y → (j ≡ k) × (x ≡ y)
one_head j k octets x y (d, t, p, h) (e, u, q, g) =
    let same_d : d ≡ e = cc in
    let same_t : t ≡ u = cc in
    let here = found_at j d t h in
    let there = found_at k e u g in
    let across : kind_at (d / 2) t ≡ kind_at (e / 2) u = λ i. kind_at (same_d i / 2) (same_t i) in
    let kinds : Some j ≡ Some k = sym here ∙ across ∙ there in
    (cc, cc)

-- what follows a discriminator, where no message has this head
no_type : List ℕ → RslFault
no_type [] = fault.Torn 1
no_type (t ∷ body) = fault.UnknownType t

HeadIs : List ℕ → RslFault → Type 0
HeadIs [] f = f ≡ fault.NotRsl
HeadIs (d ∷ rest) f = ((f ≡ fault.NotRsl) × (IsDiscriminator d → ⊥)) ⊎ ((f ≡ no_type rest) × IsDiscriminator d)

head_is : (octets : List ℕ) (f : RslFault) → HasHeadFault octets f → HeadIs octets f
unfolding HeadIs no_type
head_is octets fault.TooLong h = absurd h
head_is octets fault.NotRsl (inl none) = subst (λ o. HeadIs o fault.NotRsl) (sym none) refl
head_is octets fault.NotRsl (inr (d, rest, is, not)) = subst (λ o. HeadIs o fault.NotRsl) (sym is) (inl (refl, not))
head_is octets (fault.Torn at) (d, is, disc, one) = subst (λ o. HeadIs o (fault.Torn at)) (sym is) (inr (ap fault.Torn one, disc))
head_is octets (fault.UnknownType t) (d, body, is, disc, none) = subst (λ o. HeadIs o (fault.UnknownType t)) (sym is) (inr (refl, disc))
head_is octets (fault.Missing i) h = absurd h
head_is octets (fault.BadElement i) h = absurd h
head_is octets fault.NoMemory h = absurd h

one_head_fault : (octets : List ℕ) (f g : RslFault) → HeadIs octets f → HeadIs octets g → f ≡ g
unfolding HeadIs no_type
one_head_fault [] f g p q = p ∙ sym q
one_head_fault (d ∷ rest) f g (inl p) (inl q) = p.0 ∙ sym q.0
one_head_fault (d ∷ rest) f g (inl p) (inr q) = absurd (p.1 q.1)
one_head_fault (d ∷ rest) f g (inr p) (inl q) = absurd (q.1 p.1)
one_head_fault (d ∷ rest) f g (inr p) (inr q) = p.0 ∙ sym q.0

-- a head that has a fault is no head of a message
bad_head : (octets : List ℕ) (f : RslFault) (k : MessageKind) (body : List ℕ) → HasHeadFault octets f → Begins k octets body → ⊥
bad_head octets fault.TooLong k body h head = h
bad_head octets fault.NotRsl k body (inl none) head = let is = head.2 in cc
bad_head octets fault.NotRsl k body (inr (d, rest, is, not)) head =
    let same : head.0 ≡ d = cc in
    not (subst IsDiscriminator same (discriminates k head.0 head.1 head.3))
bad_head octets (fault.Torn at) k body (d, is, disc, one) head = let begins = head.2 in cc
bad_head octets (fault.UnknownType t) k body (d, rest, is, disc, none) head =
    let same_d : head.0 ≡ d = cc in
    let same_t : head.1 ≡ t = cc in
    none k (subst (λ u. IsHead k d u) same_t (subst (λ e. IsHead k e head.1) same_d head.3))
bad_head octets (fault.Missing i) k body h head = h
bad_head octets (fault.BadElement i) k body h head = h
bad_head octets fault.NoMemory k body h head = h

one_early_fault : (octets : List ℕ) (f g : RslFault) → HasEarlyFault octets f → HasEarlyFault octets g → f ≡ g
one_early_fault octets f g (inl p) (inl q) = p.1 ∙ sym q.1
one_early_fault octets f g (inl p) (inr q) = let long = p.0 in let short = q.0 in absurd (omega arith)
one_early_fault octets f g (inr p) (inl q) = let long = q.0 in let short = p.0 in absurd (omega arith)
one_early_fault octets f g (inr p) (inr q) = one_head_fault octets f g (head_is octets f p.1) (head_is octets g q.1)

fault_or_head : (octets : List ℕ) (f : RslFault) (k : MessageKind) (body : List ℕ) → HasEarlyFault octets f → length octets ≤ limit → Begins k octets body → ⊥
fault_or_head octets f k body (inl p) short head = let long = p.0 in omega arith
fault_or_head octets f k body (inr p) short head = bad_head octets f k body p.1 head

pub heads : (A : Type 0) → HeadsAreUnique (codec A)
heads A = record {
  head = λ j k octets x y p q. one_head j k octets x y p.1 q.1;
  fault = λ octets f g p q. one_early_fault octets f g p q;
  either = λ octets f k body p q. fault_or_head octets f k body p q.0 q.1;
}

-- no fault but refused memory is said so
pub not_by_value : (e : ValueFault) → fault.NoMemory ≡ fault_of e → ⊥
not_by_value (Absent i) same = cc
not_by_value (Bad i) same = cc

pub not_torn : (at : ℕ) → fault.NoMemory ≡ fault.Torn (2 + at) → ⊥
not_torn at same = cc

pub not_early : (octets : List ℕ) → HasEarlyFault octets fault.NoMemory → ⊥
not_early octets (inl (long, same)) = cc
not_early octets (inr (short, head)) = head

-- a text has no fault but refused memory
pub no_fault : {A : Type 0} (v : Rsl A) (octets : List ℕ) (f : RslFault) → IsTextOf v octets → HasFault A octets f → f ≡ fault.NoMemory
no_fault {A} v octets f text fault = (reading_is_unique (codec A) (heads A)).text v octets f text fault

-- octets have one fault
pub one_fault : (A : Type 0) (octets : List ℕ) (f g : RslFault) → HasFault A octets f → HasFault A octets g → f ≡ g
one_fault A octets f g p q = (reading_is_unique (codec A) (heads A)).fault octets f g p q
