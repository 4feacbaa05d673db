-- The traffic timeslots of a TRX as the bits of an octet.
use Rattle.std.proofs.Common.{◌≡◌, ◌==◌, ◌<◌, ◌*◌, ◌%◌, ◌^◌, ℕ, Bool, true, false, ◌||◌, refl, sym, ◌∙◌, ap, subst, w8, arith}
use Rattle.std.specs.Int.RustNames.{bit_or}
use Rattle.std.proofs.lemmas.Bool.Decides.{nat_tests}
use Rattle.std.proofs.lemmas.Nat.Bits.{bit_at_set_same, bit_at_set_other}
use mir.Val.{bits}
use Rattle.channel_fsm.specs.Masks.{has}

-- one timeslot more
pub one_more : (octet tn n : ℕ) → tn < 8 → has (bit_or octet (1 * 2 ^ tn % 2 ^ bits w8)) n ≡ (has octet n || (tn == n))
one_more octet tn n small = by (tn == n) refl
  where
    equal : (k m : ℕ) → (k == m) ≡ true → k ≡ m
    equal k m e = grind (arith, nat_tests)

    or_true : (b : Bool) → (b || true) ≡ true
    or_true true = refl
    or_true false = refl

    or_false : (b : Bool) → (b || false) ≡ b
    or_false true = refl
    or_false false = refl

    apart : (k m : ℕ) → (k == m) ≡ false → m ≡ k → ⊥
    apart k m e is = grind (arith, nat_tests)

    by : (b : Bool) → (tn == n) ≡ b → has (bit_or octet (1 * 2 ^ tn % 2 ^ bits w8)) n ≡ (has octet n || b)
    by true e =
        subst (λ m. has (bit_or octet (1 * 2 ^ tn % 2 ^ bits w8)) m ≡ true) (equal tn n e) (ap (λ b. b == 1) (bit_at_set_same w8 octet tn (omega (arith, small)))) ∙ sym (or_true (has octet n))
    by false e = ap (λ b. b == 1) (bit_at_set_other w8 octet tn (omega (arith, small)) n (apart tn n e)) ∙ sym (or_false (has octet n))
