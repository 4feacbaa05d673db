-- Fields that are written and cut again.
use Rattle.std.proofs.Common.{◌≡◌, ◌∙◌, sym, ℕ, zero, suc, ◌+◌, ◌*◌, ◌/◌, ◌%◌, ◌^◌, ◌<◌, ◌==◌, Bool, true, false, not, List, [], ◌∷◌, ◌++◌, length, take, drop, replicate, refl, ap, arith}
use Rattle.std.proofs.lemmas.List.{take_at, drop_at}
use Rattle.std.proofs.lemmas.List.Concat.{flat_map-cons}
use Rattle.std.proofs.lemmas.Nat.{mod_below, pow_pos}
use Rattle.std.proofs.Math.Nat.{mod-eq_of_lt}
use Rattle.octet_elements.specs.Bits.{bits, bits_of, number_of, total, cut, bits_written}
use Rattle.octet_elements.specs.Fields.{AreFields, field_octets, flag}
use Rattle.octet_elements.proofs.BitLemmas.{no_bits, length-bits, number_of-bits, bits-add, bits-same, bits-put, put_below, drop-bits, number_of-take-bits, length-octets_of}

-- a flag's bit is 1 where the flag is set, and 0 where it isn't
pub flag-one : (b : Bool) → (flag b == 1) ≡ b
flag-one true = refl
flag-one false = refl

pub flag-none : (b : Bool) → (flag (not b) == 0) ≡ b
flag-none true = refl
flag-none false = refl

pub flag_below : (b : Bool) → flag b < 2
flag_below true = omega arith
flag_below false = omega arith

-- each number fits its width
abbrev pub FieldsFit : List ℕ → List ℕ → Type 0
FieldsFit [] [] = Unit {0}
FieldsFit [] (n ∷ ns) = ⊥
FieldsFit (w ∷ ws) [] = ⊥
FieldsFit (w ∷ ws) (n ∷ ns) = (n < 2 ^ w) × FieldsFit ws ns

pub fit-append : (ws vs ns ms : List ℕ) → FieldsFit ws ns → FieldsFit vs ms → FieldsFit (ws ++ vs) (ns ++ ms)
fit-append [] vs [] ms p q = q
fit-append [] vs (n ∷ ns) ms p q = absurd p
fit-append (w ∷ ws) vs [] ms p q = absurd p
fit-append (w ∷ ws) vs (n ∷ ns) ms p q = (p.0, fit-append ws vs ns ms p.1 q)

-- what is written is the bits of one number
bits_written-bits : (ws ns : List ℕ) → FieldsFit ws ns → (m : ℕ) × (m < 2 ^ total ws) × (bits_written ws ns ≡ bits (total ws) m)
unfolding bits
bits_written-bits [] [] fit = (0, omega arith, refl)
bits_written-bits [] (n ∷ ns) fit = absurd fit
bits_written-bits (w ∷ ws) [] fit = absurd fit
bits_written-bits (w ∷ ws) (n ∷ ns) fit =
    let rest = bits_written-bits ws ns fit.1 in
    let m = n * 2 ^ total ws + rest.0 in
    let below : m < 2 ^ (w + total ws) = put_below n w rest.0 (total ws) fit.0 rest.1 in
    let same : bits_written (w ∷ ws) (n ∷ ns) ≡ bits (w + total ws) m = ap (λ bs. bits w n ++ bs) rest.2 ∙ sym (bits-put w (total ws) n rest.0 rest.1) in
    (m, below, same)

-- what is written is cut again
pub cut-bits_written : (ws ns : List ℕ) → FieldsFit ws ns → cut ws (bits_written ws ns) ≡ ns
cut-bits_written [] [] fit = refl
cut-bits_written [] (n ∷ ns) fit = absurd fit
cut-bits_written (w ∷ ws) [] fit = absurd fit
cut-bits_written (w ∷ ws) (n ∷ ns) fit =
    let here : take w (bits w n ++ bits_written ws ns) ≡ bits w n = take_at _ _ w (length-bits w n) in
    let rest : drop w (bits w n ++ bits_written ws ns) ≡ bits_written ws ns = drop_at _ _ w (length-bits w n) in
    let number : number_of (bits w n) ≡ n = number_of-bits w n ∙ mod-eq_of_lt fit.0 in
    rw (here, rest, number, cut-bits_written ws ns fit.1) refl

bits_of-cons : (x : ℕ) (xs : List ℕ) → bits_of (x ∷ xs) ≡ bits 8 x ++ bits_of xs
bits_of-cons x xs = flat_map-cons (bits 8) x xs

-- the octets of a bit string have its bits
pub bits_of-cut : (k n : ℕ) → bits_of (cut (replicate k 8) (bits (k * 8) n)) ≡ bits (k * 8) n
bits_of-cut zero n = sym (no_bits n)
bits_of-cut (suc k) n =
    let step : suc k * 8 ≡ 8 + k * 8 = omega arith in
    let octet = n / 2 ^ (k * 8) % 2 ^ 8 in
    let first : number_of (take 8 (bits (8 + k * 8) n)) ≡ octet = number_of-take-bits 8 (k * 8) n in
    let rest : drop 8 (bits (8 + k * 8) n) ≡ bits (k * 8) n = drop-bits 8 (k * 8) n in
    let low : octet % 2 ^ 8 ≡ n / 2 ^ (k * 8) % 2 ^ 8 = mod-eq_of_lt (mod_below (n / 2 ^ (k * 8)) (2 ^ 8) (pow_pos 8)) in
    let pieces : cut (replicate (suc k) 8) (bits (8 + k * 8) n) ≡ octet ∷ cut (replicate k 8) (bits (k * 8) n) = rw (first, rest) refl in
    rw step (ap bits_of pieces ∙ bits_of-cons octet _ ∙ ap (λ bs. bits 8 octet ++ bs) (bits_of-cut k n) ∙ ap (λ bs. bs ++ bits (k * 8) n) (bits-same 8 octet (n / 2 ^ (k * 8)) low) ∙ sym (bits-add 8 (k * 8) n))

-- what is written with widths that make whole octets is fields of the octets
pub AreFields-field_octets : (ws ns : List ℕ) → FieldsFit ws ns → total ws % 8 ≡ 0 → AreFields ws ns (field_octets ws ns)
AreFields-field_octets ws ns fit whole =
    let m = bits_written-bits ws ns fit in
    let k = total ws / 8 in
    let eights : total ws ≡ k * 8 = omega arith in
    let is : bits_written ws ns ≡ bits (k * 8) m.0 = m.2 ∙ ap (λ j. bits j m.0) eights in
    let count : length (bits_written ws ns) / 8 ≡ k = ap (λ bs. length bs / 8) m.2 ∙ ap (λ j. j / 8) (length-bits (total ws) m.0) in
    let octets : field_octets ws ns ≡ cut (replicate k 8) (bits (k * 8) m.0) = ap (λ j. cut (replicate j 8) (bits_written ws ns)) count ∙ ap (cut (replicate k 8)) is in
    let again : bits_of (field_octets ws ns) ≡ bits_written ws ns = ap bits_of octets ∙ bits_of-cut k m.0 ∙ sym is in
    let long : length (field_octets ws ns) ≡ k = length-octets_of (bits_written ws ns) ∙ count in
    record {
      len = omega arith;
      pieces = ap (cut ws) again ∙ cut-bits_written ws ns fit;
    }
