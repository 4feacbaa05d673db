-- Bits that leave the register leave behind what they alone would: the check is linear over `xor`.
use Rattle.std.proofs.Common.{◌≡◌, ℕ, ◌+◌, ◌*◌, ◌/◌, ◌%◌, ◌^◌, ◌<◌, ◌==◌, zero, suc, Bool, true, false, if◌then◌else◌, List, [], ◌∷◌, map, get_or, bit_xor, refl, sym, ap, ◌∙◌, arith, mul_assoc, pow-add}
use Rattle.std.specs.List.{range_with_len}
use Rattle.std.proofs.lemmas.List.FromFn.{get_or-map-range_with_len}
use Rattle.std.proofs.lemmas.Nat.{xor_comm, xor_block, xor_mod, xor_shr}
use lib.Bits.{xor_assoc, xor_zero_r}
use Rattle.journal_records.specs.Checksum.{generator, shifted, shifts}

added : (h half : ℕ) (leaves : Bool) → (if leaves then bit_xor (bit_xor h half) generator else bit_xor h half) ≡ bit_xor h (if leaves then bit_xor half generator else half)
added h half true = xor_assoc h half generator
added h half false = refl

high_shifted : (h y : ℕ) → shifted (bit_xor (h * 2) y) ≡ bit_xor h (shifted y)
unfolding shifted
high_shifted h y =
    let above : h * 2 / 2 ^ 1 ≡ h = omega arith in
    let below : h * 2 % 2 ^ 1 ≡ 0 = omega arith in
    let half : bit_xor (h * 2) y / 2 ≡ bit_xor h (y / 2) = xor_shr (h * 2) y 1 ∙ ap (λ x. bit_xor x (y / 2)) above in
    let low : bit_xor (h * 2) y % 2 ≡ y % 2 = xor_mod (h * 2) y 1 ∙ ap (λ x. bit_xor x (y % 2)) below ∙ xor_comm 0 (y % 2) ∙ xor_zero_r (y % 2) in
    rw (half, low) (added h (y / 2) (y % 2 == 1))

-- what stands above the bits that leave moves down, and is added to what they leave
high_shifts : (n h y : ℕ) → shifts n (bit_xor (h * 2 ^ n) y) ≡ bit_xor h (shifts n y)
high_shifts zero h y = ap (λ x. bit_xor x y) (omega arith)
high_shifts (suc n) h y =
    let more : suc n ≡ 1 + n = omega arith in
    let doubled : h * 2 ^ suc n ≡ h * 2 * 2 ^ n = ap (λ k. h * 2 ^ k) more ∙ ap (λ x. h * x) (pow-add 2 1 n) ∙ sym (mul_assoc h 2 (2 ^ n)) in
    ap (λ x. shifted (shifts n (bit_xor x y))) doubled ∙ ap shifted (high_shifts n (h * 2) y) ∙ high_shifted h (shifts n y)

parts : (r : ℕ) → r ≡ bit_xor (r / 16 * 16) (r % 16)
parts r =
    let low : r % 16 < 16 = omega arith in
    let both = xor_block 4 (r / 16) 0 0 (r % 16) (omega arith) low in
    let whole : r ≡ bit_xor (r / 16) 0 * 2 ^ 4 + bit_xor 0 (r % 16) = omega (arith, xor_zero_r (r / 16), xor_comm 0 (r % 16), xor_zero_r (r % 16)) in
    let high : r / 16 * 2 ^ 4 + 0 ≡ r / 16 * 16 = omega arith in
    let rest : 0 * 2 ^ 4 + r % 16 ≡ r % 16 = omega arith in
    whole ∙ sym both ∙ ap (λ x. bit_xor x (0 * 2 ^ 4 + r % 16)) high ∙ ap (λ x. bit_xor (r / 16 * 16) x) rest

pub four : (r : ℕ) → shifts 4 r ≡ bit_xor (r / 16) (shifts 4 (r % 16))
four r = ap (shifts 4) (parts r) ∙ high_shifts 4 (r / 16) (r % 16)

abbrev pub left_behind : List ℕ
left_behind = 0 ∷ 498536548 ∷ 997073096 ∷ 651767980 ∷ 1994146192 ∷ 1802195444 ∷ 1303535960 ∷ 1342533948 ∷ 3988292384 ∷ 4027552580 ∷ 3604390888 ∷ 3412177804 ∷ 2607071920 ∷ 2262029012 ∷ 2685067896 ∷ 3183342108 ∷ []

pub left : (r : ℕ) → get_or left_behind (r % 16) 0 ≡ shifts 4 (r % 16)
unfolding shifted
left r =
    let same : left_behind ≡ map (shifts 4) (range_with_len 0 16) = refl in
    ap (λ xs. get_or xs (r % 16) 0) same ∙ get_or-map-range_with_len (shifts 4) 0 16 (r % 16) (r % 16) 0 (omega arith) (omega arith)
