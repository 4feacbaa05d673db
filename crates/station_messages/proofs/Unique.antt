-- Octets begin with one head, or have one fault before the body, where a table tells its kinds of messages apart.
use Rattle.std.proofs.Common.{◌≡◌, ◌⊎◌, ℕ, ◌<◌, ◌≤◌, List, [], ◌∷◌, length, refl, sym, ◌∙◌, subst, ap, arith, inl, inr, Result}
use Rattle.octet_elements.specs.Lookup.{Lookup}
use Rattle.octet_elements.specs.Texts.{HeadsAreUnique}
use Rattle.octet_elements.specs.declared.values.ValueFault.{ValueFault}
use Rattle.rsl_messages.specs.declared.fault.RslFault.{RslFault}
use Rattle.rsl_messages.specs.declared.fault.RslFault.TheVariants as fault
use Rattle.rsl_messages.specs.Heads.{IsDiscriminator}
use Rattle.rsl_messages.specs.Texts.{limit}
use Rattle.station_messages.specs.Heads.{Heads, IsHead, Begins, HasEarlyFault, codec_of}

-- The table has one kind of message for a head, and its discriminators are those of messages about a channel.
pub record Tells {Kind : Type 0} (heads : Heads Kind) : Type 0 where
  pub one : (j k : Kind) (d t : ℕ) → IsHead heads j d t → IsHead heads k d t → j ≡ k
  pub discriminates : (k : Kind) (d t : ℕ) → IsHead heads k d t → IsDiscriminator d

-- octets begin with the head of one message
pub one_head : {Kind : Type 0} (heads : Heads Kind) → Tells heads → (j k : Kind) (octets x y : List ℕ) → Begins heads j octets x → Begins heads k octets y → (j ≡ k) × (x ≡ y)
one_head heads tells j k octets x y (d, t, p, h) (e, u, q, g) =
    let same_d : d ≡ e = cc in
    let same_t : t ≡ u = cc in
    let there : IsHead heads k d t = subst (λ u. IsHead heads k d u) (sym same_t) (subst (λ e. IsHead heads k e u) (sym same_d) g) in
    (tells.one j k d t h there, cc)

-- what follows a discriminator, where no message has this head
no_type : List ℕ → RslFault
no_type [] = fault.Torn 1
no_type (t ∷ body) = fault.UnknownType t

HeadIs : List ℕ → RslFault → Type 0
HeadIs [] f = f ≡ fault.NotRsl
HeadIs (d ∷ rest) f = ((f ≡ fault.NotRsl) × (IsDiscriminator d → ⊥)) ⊎ ((f ≡ no_type rest) × IsDiscriminator d)

-- too many octets, or a fault of the head
EarlyIs : List ℕ → RslFault → Type 0
EarlyIs octets f = ((limit < length octets) × (f ≡ fault.TooLong)) ⊎ ((length octets ≤ limit) × HeadIs octets f)

early_is : {Kind : Type 0} (heads : Heads Kind) (octets : List ℕ) (f : RslFault) → HasEarlyFault heads octets f → EarlyIs octets f
unfolding EarlyIs HeadIs no_type
early_is heads octets fault.TooLong (inl long) = inl (long, refl)
early_is heads octets fault.NotRsl (inl (short, inl none)) = inr (short, subst (λ o. HeadIs o fault.NotRsl) (sym none) refl)
early_is heads octets fault.NotRsl (inl (short, inr (d, rest, is, not))) = inr (short, subst (λ o. HeadIs o fault.NotRsl) (sym is) (inl (refl, not)))
early_is heads octets (fault.Torn at) (inl (short, (d, is, disc, one))) = inr (short, subst (λ o. HeadIs o (fault.Torn at)) (sym is) (inr (ap fault.Torn one, disc)))
early_is heads octets (fault.UnknownType t) (inl h) = absurd h
early_is heads octets (fault.Missing i) (inl h) = absurd h
early_is heads octets (fault.BadElement i) (inl h) = absurd h
early_is heads octets fault.NoMemory (inl h) = absurd h
early_is heads octets f (inr (short, (d, t, body, is, disc, none, type))) = inr (short, subst (λ o. HeadIs o f) (sym is) (inr (type, disc)))

one_head_fault : (octets : List ℕ) (f g : RslFault) → HeadIs octets f → HeadIs octets g → f ≡ g
unfolding HeadIs no_type
one_head_fault [] f g p q = p ∙ sym q
one_head_fault (d ∷ rest) f g (inl p) (inl q) = p.0 ∙ sym q.0
one_head_fault (d ∷ rest) f g (inl p) (inr q) = absurd (p.1 q.1)
one_head_fault (d ∷ rest) f g (inr p) (inl q) = absurd (q.1 p.1)
one_head_fault (d ∷ rest) f g (inr p) (inr q) = p.0 ∙ sym q.0

one_early_fault : (octets : List ℕ) (f g : RslFault) → EarlyIs octets f → EarlyIs octets g → f ≡ g
unfolding EarlyIs
one_early_fault octets f g (inl p) (inl q) = p.1 ∙ sym q.1
one_early_fault octets f g (inl p) (inr q) = let long = p.0 in let short = q.0 in absurd (omega arith)
one_early_fault octets f g (inr p) (inl q) = let long = q.0 in let short = p.0 in absurd (omega arith)
one_early_fault octets f g (inr p) (inr q) = one_head_fault octets f g p.1 q.1

-- a head that has a fault is no head of a message
bad_head : {Kind : Type 0} (heads : Heads Kind) → Tells heads → (octets : List ℕ) (f : RslFault) (k : Kind) (body : List ℕ) → HasEarlyFault heads octets f → length octets ≤ limit → Begins heads k octets body → ⊥
bad_head heads tells octets fault.TooLong k body (inl long) short head = omega arith
bad_head heads tells octets fault.NotRsl k body (inl (within, inl none)) short head = let is = head.2 in cc
bad_head heads tells octets fault.NotRsl k body (inl (within, inr (d, rest, is, not))) short head =
    let same : head.0 ≡ d = cc in
    not (subst IsDiscriminator same (tells.discriminates k head.0 head.1 head.3))
bad_head heads tells octets (fault.Torn at) k body (inl (within, (d, is, disc, one))) short head = let begins = head.2 in cc
bad_head heads tells octets (fault.UnknownType t) k body (inl h) short head = h
bad_head heads tells octets (fault.Missing i) k body (inl h) short head = h
bad_head heads tells octets (fault.BadElement i) k body (inl h) short head = h
bad_head heads tells octets fault.NoMemory k body (inl h) short head = h
bad_head heads tells octets f k body (inr (within, (d, t, rest, is, disc, none, type))) short head =
    let same_d : head.0 ≡ d = cc in
    let same_t : head.1 ≡ t = cc in
    none k (subst (λ u. IsHead heads k d u) same_t (subst (λ e. IsHead heads k e head.1) same_d head.3))

pub heads_are_unique : {Kind V : Type 0} (heads : Heads Kind) (said : Kind → Lookup → Result V ValueFault) → Tells heads → HeadsAreUnique (codec_of heads said)
heads_are_unique heads said tells = record {
  head = λ j k octets x y p q. one_head heads tells j k octets x y p.1 q.1;
  fault = λ octets f g p q. one_early_fault octets f g (early_is heads octets f p) (early_is heads octets g q);
  either = λ octets f k body p q. bad_head heads tells octets f k body p q.0 q.1;
}

-- no fault of a head is refused memory
pub not_early : {Kind : Type 0} (heads : Heads Kind) (octets : List ℕ) → HasEarlyFault heads octets fault.NoMemory → ⊥
not_early heads octets (inl h) = h
not_early heads octets (inr (short, (d, t, body, is, disc, none, type))) = cc
