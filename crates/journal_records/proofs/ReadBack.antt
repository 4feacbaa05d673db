-- A number is read back from its digits.
use Rattle.std.proofs.Common.{◌≡◌, ◌+◌, ◌-◌, ◌*◌, ◌/◌, ◌%◌, ◌^◌, ◌<◌, ◌≤◌, ℕ, zero, suc, List, [], ◌∷◌, ◌++◌, length, length-append, append_assoc, refl, sym, ◌∙◌, ap, subst, arith}
use Rattle.std.proofs.Math.Nat.{div-lt_iff_lt-mul, div-le_self, mod-lt, mod-eq_of_lt, div-mul-le_self, pow-suc, pow-zero}
use Rattle.std.proofs.lemmas.Nat.{div-add-mod'}
use Rattle.std.proofs.lemmas.List.{append-nil}
use Rattle.std.proofs.lemmas.List.Sums.{fold-append}
use Rattle.journal_records.specs.Numerals.{digit, digit_value, numeral, after_digit, number_of}

pub numeral_length : (base width n : ℕ) → length (numeral base width n) ≡ width
unfolding numeral
numeral_length base zero n = refl
numeral_length base (suc width) n =
    length-append (numeral base width (n / base)) (digit (n % base) ∷ []) ∙ ap (λ l. l + 1) (numeral_length base width (n / base)) ∙ omega arith

digit_read : (d : ℕ) → d < 16 → digit_value (digit d) ≡ d
unfolding digit digit_value
digit_read d small = grind arith

-- a digit more behind a number below 2 ^ 64
after_one : (base n : ℕ) → 1 < base → base ≤ 16 → n < 2 ^ 64 → after_digit base (n / base) (digit (n % base)) ≡ n
unfolding after_digit
after_one base n low high fits =
    let rest : n % base < base = mod-lt n (omega (arith, low)) in
    let front : n / base * base % 2 ^ 64 ≡ n / base * base = mod-eq_of_lt (omega (arith, div-mul-le_self n base, fits)) in
    let last : digit_value (digit (n % base)) ≡ n % base = digit_read (n % base) (omega (arith, rest, high)) in
    rw (front, last, div-add-mod' n base) (mod-eq_of_lt fits)

pub read_back : (base width n : ℕ) → 1 < base → base ≤ 16 → n < base ^ width → n < 2 ^ 64 → number_of base (numeral base width n) ≡ n
unfolding numeral
read_back base zero n low high within fits = let none : n < 1 = subst (λ p. n < p) (pow-zero base) within in omega (arith, none)
read_back base (suc width) n low high within fits =
    let smaller : n < base ^ width * base = rw (← pow-suc base width) within in
    let higher = read_back base width (n / base) low high ((div-lt_iff_lt-mul (omega (arith, low))).1 smaller) (omega (arith, div-le_self n base, fits)) in
    fold-append (after_digit base) 0 (numeral base width (n / base)) (digit (n % base) ∷ [])
    ∙ ap (λ m. after_digit base m (digit (n % base))) higher ∙ after_one base n low high fits

-- no digits behind a text, and one more behind those of the higher places

pub none_behind : (base width n : ℕ) (text : List ℕ) → width ≡ 0 → text ≡ text ++ numeral base width n
unfolding numeral
none_behind base zero n text none = sym (append-nil text)
none_behind base (suc width) n text none = let never : ⊥ = omega (arith, none) in absurd never

pub one_behind : (base width n : ℕ) (text : List ℕ) → 0 < width →
    (text ++ numeral base (width - 1) (n / base)) ++ digit (n % base) ∷ [] ≡ text ++ numeral base width n
unfolding numeral
one_behind base zero n text some = let never : ⊥ = omega (arith, some) in absurd never
one_behind base (suc width) n text some = let e : suc width - 1 ≡ width = omega arith in rw e (append_assoc text (numeral base width (n / base)) (digit (n % base) ∷ []))
