-- What is wrong with octets: a text has no fault, and no octets have two.
use Rattle.std.proofs.Common.{◌≡◌, ◌≢◌, ◌∙◌, sym, ℕ, ◌*◌, ◌==◌, false, List, [], ◌∷◌, length, take, drop, refl, ap, arith, Err}
use Rattle.std.proofs.lemmas.Bool.Decides.{nat_tests}
use Rattle.octet_elements.specs.Bits.{bits_of, number_of, total}
use Rattle.rr_elements.specs.Faults.{HasOtherLength}
use Rattle.octet_elements.specs.Fields.{AreFields}
use Rattle.rr_elements.specs.ChanDescription.{Chan, IsChanText, HasChanFault}
use Rattle.rr_elements.specs.declared.fault.ElementFault.{ElementFault}
use Rattle.rr_elements.specs.declared.fault.ElementFault.TheVariants.{Length, BadType, Hopping, BadRange}
use Rattle.rr_elements.proofs.ElementLemmas.{chan-said}
use Rattle.octet_elements.specs.ChannelTypes.{type_of}
use Rattle.octet_elements.proofs.ChannelTypeLemmas.{sub_again, no_sub}
use Rattle.rr_elements.proofs.Readers.{chan_said}

is_length : (count : ℕ) (octets : List ℕ) (fault : ElementFault) → HasOtherLength count octets fault → fault ≡ Length
is_length count octets Length h = refl
is_length count octets BadType h = absurd h
is_length count octets Hopping h = absurd h
is_length count octets BadRange h = absurd h

pub one_length : (count : ℕ) (octets : List ℕ) (f g : ElementFault) → HasOtherLength count octets f → HasOtherLength count octets g → f ≡ g
one_length count octets f g p q = is_length count octets f p ∙ sym (is_length count octets g q)

pub fields_have_length : (count : ℕ) (widths numbers octets : List ℕ) (fault : ElementFault) → total widths ≡ 8 * count → AreFields widths numbers octets → HasOtherLength count octets fault → ⊥
fields_have_length count widths numbers octets Length whole fields other = let len = fields.len in other (omega arith)
fields_have_length count widths numbers octets BadType whole fields h = h
fields_have_length count widths numbers octets Hopping whole fields h = h
fields_have_length count widths numbers octets BadRange whole fields h = h

pub differs : (a b : ℕ) → a ≢ b → (a == b) ≡ false
differs a b h = grind (arith, nat_tests)

three_octets : (n : ℕ) → 8 * n ≡ 24 → n ≡ 3
three_octets n e = omega arith

-- octets with a fault are read as it
pub chan-fault : (octets : List ℕ) (fault : ElementFault) → HasChanFault octets fault → chan_said octets ≡ Err fault
chan-fault octets Length other = rw (differs (length octets) 3 other) refl
chan-fault octets BadType (three, not) =
    let kind = number_of (take 5 (bits_of octets)) in
    let other = no_sub kind (λ sub is. not sub (record { len = omega arith; pieces = ap (λ n. n ∷ []) is })) in
    rw (three, other) refl
chan-fault octets Hopping (sub, tn, tsc, fields) =
    let pieces = fields.pieces in
    let bits = bits_of octets in
    let kind : number_of (take 5 bits) ≡ type_of sub = cc in
    let hopping : number_of (take 1 (drop 3 (drop 3 (drop 5 bits)))) ≡ 1 = cc in
    rw (three_octets (length octets) fields.len, kind, sub_again sub, hopping) refl
chan-fault octets BadRange h = absurd h

pub chan_has_no_fault : (v : Chan) (octets : List ℕ) (fault : ElementFault) → IsChanText v octets → HasChanFault octets fault → ⊥
chan_has_no_fault v octets fault text bad =
    let p = chan-said v octets text in
    let q = chan-fault octets fault bad in
    cc

pub one_chan_fault : (octets : List ℕ) (f g : ElementFault) → HasChanFault octets f → HasChanFault octets g → f ≡ g
one_chan_fault octets f g p q =
    let first = chan-fault octets f p in
    let second = chan-fault octets g q in
    cc
