-- A set of timeslots by the bits of its octet.
use Rattle.std.proofs.Common.{◌≡◌, ◌≢◌, ◌==◌, ◌<◌, ◌≤◌, ◌*◌, ◌%◌, ◌^◌, ℕ, zero, suc, true, false, cond, map, count_by, refl, sym, ap, ◌∙◌, inl, inr, zero-add, w8, arith}
use Rattle.std.specs.Int.{bit_at, bit_not}
use Rattle.std.specs.Int.RustNames.{bit_and, count_ones}
use Rattle.std.proofs.lemmas.Bool.{eq-eqb, cases_lt}
use Rattle.std.proofs.lemmas.Nat.{and_le_l}
use Rattle.std.proofs.lemmas.Nat.Bits.{bit_at-lt, bit_at_above, bit_at_clear_other, same_from_bits_below}
use Rattle.std.proofs.lemmas.Simd.{mask_l-lt, bit_mask_l, ones-mask_l}
use Rattle.std.proofs.lemmas.List.FromFn.{get_or-map-range_with_len}
use lib.Lanes.{mask_l}
use mir.Val.{bits}
use Rattle.channel_fsm.specs.Masks.{has, timeslots}

pub has_one : (octet tn : ℕ) → bit_at octet tn ≡ 1 → has octet tn ≡ true
has_one octet tn e = eq-eqb (bit_at octet tn) 1 e

pub has_zero : (octet tn : ℕ) → bit_at octet tn ≡ 0 → has octet tn ≡ false
has_zero octet tn e = ap (λ b. b == 1) e

-- a bit that is cleared leaves all others, also those that an octet hasn't
pub cleared_other : (octet tn n : ℕ) → octet < 256 → tn ≤ 7 → n ≢ tn → bit_at (bit_and octet (bit_not w8 (1 * 2 ^ tn % 2 ^ bits w8))) n ≡ bit_at octet n
cleared_other octet tn n small timeslot other =
    let mask = bit_not w8 (1 * 2 ^ tn % 2 ^ bits w8) in
    let less = and_le_l octet mask in
    elim (cases_lt n 8) [
      | inl within ↦ bit_at_clear_other w8 octet tn (omega (arith, timeslot)) n (omega (arith, within)) other
      | inr beyond ↦ bit_at_above (bit_and octet mask) 8 n (omega (arith, less, small)) beyond ∙ sym (bit_at_above octet 8 n (omega (arith, small)) beyond)
    ]

bit_told : (octet tn : ℕ) → cond (has octet tn) 1 0 ≡ bit_at octet tn
bit_told octet tn = told (bit_at octet tn) (bit_at-lt octet tn)
  where
    told : (b : ℕ) → b < 2 → cond (b == 1) 1 0 ≡ b
    told zero h = refl
    told (suc zero) h = refl
    told (suc (suc b)) h = absurd (omega arith)

-- an octet is what its bits make
made_of_bits : (octet : ℕ) → octet < 256 → octet ≡ mask_l (map (has octet) timeslots)
made_of_bits octet small =
    let told = map (has octet) timeslots in
    same_from_bits_below 8 octet (mask_l told) small (mask_l-lt told)
    (λ i below.
    sym (bit_mask_l told i ∙ ap (λ b. cond b 1 0) (get_or-map-range_with_len (has octet) 0 8 i i false below (zero-add i)) ∙ bit_told octet i))

-- as many bits are set as timeslots are there
pub ones_counted : (octet : ℕ) → octet < 256 → count_ones octet ≡ count_by (has octet) timeslots
ones_counted octet small = ap count_ones (made_of_bits octet small) ∙ ones-mask_l (has octet) timeslots
