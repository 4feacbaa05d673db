-- Bit strings and numbers.
use Rattle.std.proofs.Common.{◌≡◌, ◌∙◌, sym, ℕ, zero, suc, ◌+◌, ◌*◌, ◌/◌, ◌%◌, ◌-◌, ◌^◌, ◌<◌, ◌≤◌, List, [], ◌∷◌, ◌++◌, length, take, drop, replicate, refl, ap, subst, arith}
use Rattle.std.proofs.lemmas.Nat.{mul-le, mod_below, shl_whole, or_shifted, mod-pow-add, shr-shr, field_of, shr_high, mod_low, pow_pos, pow-add}
use Rattle.std.proofs.lemmas.List.{take_at, drop_at, drop-take, take-append-le, length-take-le, length-replicate}
use Rattle.std.proofs.Math.Seq.{take-add, take-length}
use Rattle.std.proofs.Math.Pow.{shr_lt}
use Rattle.std.proofs.Math.Nat.{pow-le-pow_right, mod-eq_of_lt, zero-div, pow-suc, suc-mul}
use Rattle.std.specs.Int.{byte_at, bytes_high_first, to_be_bytes, w128}
use Rattle.std.specs.Int.RustNames.{bit_or}
use Rattle.octet_elements.specs.Bits.{bits, number_of, cut, octets_of}

pub no_bits : (n : ℕ) → bits 0 n ≡ []
unfolding bits
no_bits n = refl

pub length-bits : (w n : ℕ) → length (bits w n) ≡ w
unfolding bits
length-bits zero n = refl
length-bits (suc w) n = ap suc (length-bits w n)

-- the number of a number's bits
pub number_of-bits : (w n : ℕ) → number_of (bits w n) ≡ n % 2 ^ w
unfolding bits number_of
number_of-bits zero n = omega arith
number_of-bits (suc w) n =
    let split : n % 2 ^ (1 + w) ≡ (n / 2 ^ w % 2 ^ 1) * 2 ^ w + n % 2 ^ w = mod-pow-add n 1 w in
    let one : suc w ≡ 1 + w = omega arith in
    rw (length-bits w n, number_of-bits w n, one) (sym split)

-- the high bits and the low ones
pub bits-add : (v w n : ℕ) → bits (v + w) n ≡ bits v (n / 2 ^ w) ++ bits w n
unfolding bits
bits-add zero w n = ap (λ k. bits k n) (omega arith)
bits-add (suc v) w n =
    let first : n / 2 ^ (v + w) ≡ n / 2 ^ w / 2 ^ v = sym (shr-shr n w v ∙ ap (λ k. n / 2 ^ k) (omega arith)) in
    let step : suc v + w ≡ suc (v + w) = omega arith in
    rw step (rw (first, bits-add v w n) refl)

-- zeros
pub zeros-add : (v w : ℕ) → bits (v + w) 0 ≡ bits v 0 ++ bits w 0
zeros-add v w = bits-add v w 0 ∙ ap (λ n. bits v n ++ bits w 0) (zero-div (2 ^ w))

low_of : (n w : ℕ) → n % 2 ^ (1 + w) % 2 ^ w ≡ n % 2 ^ w
low_of n w = ap (λ k. k % 2 ^ w) (mod-pow-add n 1 w) ∙ mod_low (n / 2 ^ w % 2 ^ 1) w (n % 2 ^ w) (mod_below n (2 ^ w) (pow_pos w))

-- the bits of two numbers with the same rest are the same
pub bits-same : (w a b : ℕ) → a % 2 ^ w ≡ b % 2 ^ w → bits w a ≡ bits w b
unfolding bits
bits-same zero a b e = refl
bits-same (suc w) a b e =
    let one : suc w ≡ 1 + w = omega arith in
    let whole : a % 2 ^ (1 + w) ≡ b % 2 ^ (1 + w) = rw one at e in
    let head : a / 2 ^ w % 2 ^ 1 ≡ b / 2 ^ w % 2 ^ 1 = sym (field_of a 1 w) ∙ ap (λ k. k / 2 ^ w) whole ∙ field_of b 1 w in
    let tail : a % 2 ^ w ≡ b % 2 ^ w = sym (low_of a w) ∙ ap (λ k. k % 2 ^ w) whole ∙ low_of b w in
    rw (head, bits-same w a b tail) refl

-- a number below 2 ^ v followed by w more bits
pub put_below : (n v k w : ℕ) → n < 2 ^ v → k < 2 ^ w → n * 2 ^ w + k < 2 ^ (v + w)
put_below n v k w p q =
    let rows : (suc n) * 2 ^ w ≤ 2 ^ v * 2 ^ w = mul-le _ _ _ _ p (omega arith) in
    rw (pow-add 2 v w) (omega (arith, suc-mul n (2 ^ w)))

-- the number that a shift and an or make, where no bit is lost
pub put_number : (n v w k : ℕ) → n < 2 ^ v → v + w ≤ 128 → k < 2 ^ w → bit_or (n * 2 ^ w % 2 ^ 128) k ≡ n * 2 ^ w + k
put_number n v w k p room q = rw (shl_whole n v w 128 p room) (or_shifted n w k q)

pub bits-put : (v w n k : ℕ) → k < 2 ^ w → bits (v + w) (n * 2 ^ w + k) ≡ bits v n ++ bits w k
bits-put v w n k q =
    let low : (n * 2 ^ w + k) % 2 ^ w ≡ k % 2 ^ w = mod_low n w k q ∙ sym (mod-eq_of_lt q) in
    bits-add v w (n * 2 ^ w + k) ∙ rw (shr_high n w k q, bits-same w (n * 2 ^ w + k) k low) refl

-- the next bits of a bit string, and the rest
pub take-bits : (w r n : ℕ) → take w (bits (w + r) n) ≡ bits w (n / 2 ^ r)
take-bits w r n = ap (take w) (bits-add w r n) ∙ take_at _ _ w (length-bits w (n / 2 ^ r))

pub drop-bits : (w r n : ℕ) → drop w (bits (w + r) n) ≡ bits r n
drop-bits w r n = ap (drop w) (bits-add w r n) ∙ drop_at _ _ w (length-bits w (n / 2 ^ r))

pub number_of-take-bits : (w r n : ℕ) → number_of (take w (bits (w + r) n)) ≡ n / 2 ^ r % 2 ^ w
number_of-take-bits w r n = ap number_of (take-bits w r n) ∙ number_of-bits w (n / 2 ^ r)

-- powers of 256 are powers of two
pow_256 : (k : ℕ) → 256 ^ k ≡ 2 ^ (k * 8)
pow_256 zero = refl
pow_256 (suc k) =
    let step : suc k * 8 ≡ k * 8 + 8 = omega arith in
    rw (step, pow-add 2 (k * 8) 8, ← pow_256 k) (pow-suc 256 k)

byte_at-bits : (k n : ℕ) → n / 2 ^ (k * 8) % 256 ≡ byte_at k n
byte_at-bits zero n = omega arith
byte_at-bits (suc k) n = ap (λ d. n / d % 256) (sym (pow_256 (suc k)))

-- a bit string cut by eights is the bytes of its number
pub cut-bits-eights : (k n : ℕ) → cut (replicate k 8) (bits (k * 8) n) ≡ bytes_high_first k n
cut-bits-eights zero n = refl
cut-bits-eights (suc k) n =
    let step : suc k * 8 ≡ 8 + k * 8 = omega arith in
    let first : number_of (take 8 (bits (8 + k * 8) n)) ≡ byte_at k n = number_of-take-bits 8 (k * 8) n ∙ byte_at-bits k n in
    rw (step, first, drop-bits 8 (k * 8) n, cut-bits-eights k n) refl

suc_add : (j k : ℕ) → suc j + k ≡ suc (j + k)
suc_add j k = omega arith

-- the last octets of a number of 16
pub drop-bytes : (j k n : ℕ) → drop j (bytes_high_first (j + k) n) ≡ bytes_high_first k n
drop-bytes zero k n = ap (λ i. bytes_high_first i n) (omega arith)
drop-bytes (suc j) k n = ap (λ i. drop (suc j) (bytes_high_first i n)) (suc_add j k) ∙ drop-bytes j k n

-- the octets of a bit string are the last bytes of its number
pub octets_of-bits : (len n : ℕ) → len ≤ 128 → len % 8 ≡ 0 → octets_of (bits len n) ≡ drop (16 - len / 8) (to_be_bytes w128 n)
octets_of-bits len n small whole =
    let k = len / 8 in
    let eights : len ≡ k * 8 = omega arith in
    let sixteen : 16 ≡ (16 - k) + k = omega arith in
    let count : length (bits len n) / 8 ≡ k = ap (λ m. m / 8) (length-bits len n) in
    let said : octets_of (bits len n) ≡ bytes_high_first k n = rw count (ap (λ m. cut (replicate k 8) (bits m n)) eights ∙ cut-bits-eights k n) in
    said ∙ sym (ap (λ m. drop (16 - k) (bytes_high_first m n)) sixteen ∙ drop-bytes (16 - k) k n)

pub length-cut : (ws bs : List ℕ) → length (cut ws bs) ≡ length ws
length-cut [] bs = refl
length-cut (w ∷ ws) bs = ap suc (length-cut ws (drop w bs))

-- as many octets as eights of bits
pub length-octets_of : (bs : List ℕ) → length (octets_of bs) ≡ length bs / 8
length-octets_of bs = length-cut (replicate (length bs / 8) 8) bs ∙ length-replicate (length bs / 8) 8

-- the octets as the code slices them
pub slice-octets_of : (bs : List ℕ) (len n : ℕ) → bits len n ≡ bs → len ≤ 128 → length bs % 8 ≡ 0 → take (16 - (16 - len / 8)) (drop (16 - len / 8) (to_be_bytes w128 n)) ≡ octets_of bs
slice-octets_of bs len n is small whole =
    let long : length bs ≡ len = sym (ap length is) ∙ length-bits len n in
    let all : drop (16 - len / 8) (to_be_bytes w128 n) ≡ octets_of bs = sym (octets_of-bits len n small (omega arith)) ∙ ap octets_of is in
    let count : 16 - (16 - len / 8) ≡ length (octets_of bs) = omega (arith, length-octets_of bs) in
    rw (all, count) (take-length (octets_of bs))

-- a number that is shifted up within its width has its bits first, and then zeros
shifted : (k r n : ℕ) → bits (k + r) (n * 2 ^ r % 2 ^ (k + r)) ≡ bits k n ++ bits r 0
shifted k r n =
    let same : n * 2 ^ r % 2 ^ (k + r) % 2 ^ (k + r) ≡ (n * 2 ^ r + 0) % 2 ^ (k + r) = mod-eq_of_lt (mod_below (n * 2 ^ r) (2 ^ (k + r)) (pow_pos (k + r))) ∙ ap (λ m. m % 2 ^ (k + r)) (omega arith) in
    bits-same (k + r) _ _ same ∙ bits-put k r n 0 (pow_pos r)

-- the bits that a reader begins with
pub take-top : (k n : ℕ) → k ≤ 128 → take k (bits 128 (n * 2 ^ (128 - k) % 2 ^ 128)) ≡ bits k n
take-top k n few =
    let whole : 128 ≡ k + (128 - k) = omega arith in
    ap (λ t. take k (bits t (n * 2 ^ (128 - k) % 2 ^ t))) whole ∙ ap (take k) (shifted k (128 - k) n) ∙ take_at _ _ k (length-bits k n)

pub length-window : (k n : ℕ) → k ≤ 128 → length (take k (bits 128 n)) ≡ k
length-window k n few = length-take-le k (bits 128 n) (omega (arith, length-bits 128 n))

-- the number that a reader takes
number_of-take-take : (w m r n : ℕ) → n < 2 ^ (w + r) → number_of (take w (take (w + m) (bits (w + r) n))) ≡ n / 2 ^ r
number_of-take-take w m r n small =
    let all = bits (w + r) n in
    let front : length (take w all) ≡ w = length-take-le w all (omega (arith, length-bits (w + r) n)) in
    let short : take w (take (w + m) all) ≡ take w all = ap (take w) (take-add w m all) ∙ take_at (take w all) (take m (drop w all)) w front in
    ap number_of short ∙ number_of-take-bits w r n ∙ mod-eq_of_lt (shr_lt w r small)

-- the bits that a reader has left
drop-take-bits : (w m r n : ℕ) → m ≤ r → drop w (take (w + m) (bits (w + r) n)) ≡ take m (bits (w + r) (n * 2 ^ w % 2 ^ (w + r)))
drop-take-bits w m r n few =
    let turn : w + r ≡ r + w = omega arith in
    let rest : take m (bits (r + w) (n * 2 ^ w % 2 ^ (r + w))) ≡ take m (bits r n) = ap (take m) (shifted r w n) ∙ take-append-le m (bits r n) (bits w 0) (omega (arith, length-bits r n)) in
    drop-take w m (bits (w + r) n) ∙ ap (take m) (drop-bits w r n) ∙ sym (ap (λ t. take m (bits t (n * 2 ^ w % 2 ^ t))) turn ∙ rest)

-- a reader of the first k bits of a word takes a number, and leaves the rest
pub take-number : (w k n : ℕ) → w ≤ k → k ≤ 128 → n < 2 ^ 128 → number_of (take w (take k (bits 128 n))) ≡ n / 2 ^ (128 - w)
take-number w k n some few small =
    let front : k ≡ w + (k - w) = omega arith in
    let whole : 128 ≡ w + (128 - w) = omega arith in
    ap (λ j. number_of (take w (take j (bits 128 n)))) front ∙ ap (λ t. number_of (take w (take (w + (k - w)) (bits t n)))) whole ∙ number_of-take-take w (k - w) (128 - w) n (subst (λ t. n < 2 ^ t) whole small)

pub taken_below : (w n : ℕ) → w ≤ 8 → n < 2 ^ 128 → n / 2 ^ (128 - w) < 2 ^ w
taken_below w n narrow small =
    let whole : 128 ≡ w + (128 - w) = omega arith in
    shr_lt w (128 - w) (subst (λ t. n < 2 ^ t) whole small)

pub taken_fits : (w n : ℕ) → w ≤ 8 → n < 2 ^ 128 → n / 2 ^ (128 - w) < 256
taken_fits w n narrow small =
    let top : 2 ^ w ≤ 2 ^ 8 = pow-le-pow_right (omega arith) narrow in
    let below = taken_below w n narrow small in
    omega arith

pub take-rest : (w k n : ℕ) → w ≤ k → k ≤ 128 → drop w (take k (bits 128 n)) ≡ take (k - w) (bits 128 (n * 2 ^ w % 2 ^ 128))
take-rest w k n some few =
    let front : k ≡ w + (k - w) = omega arith in
    let whole : 128 ≡ w + (128 - w) = omega arith in
    ap (λ j. drop w (take j (bits 128 n))) front ∙ ap (λ t. drop w (take (w + (k - w)) (bits t n))) whole ∙ drop-take-bits w (k - w) (128 - w) n (omega arith) ∙ sym (ap (λ t. take (k - w) (bits t (n * 2 ^ w % 2 ^ t))) whole)

-- a number with zeros put behind it
pub pad_below : (n v w t : ℕ) → t ≡ v + w → n < 2 ^ v → t ≤ 128 → n * 2 ^ w % 2 ^ 128 < 2 ^ t
pad_below n v w t is small room =
    let below : n * 2 ^ w + 0 < 2 ^ (v + w) = put_below n v 0 w small (pow_pos w) in
    let fits : v + w ≤ 128 = omega arith in
    rw (is, shl_whole n v w 128 small fits) (omega arith)

pub bits-pad : (n v w t : ℕ) → t ≡ v + w → n < 2 ^ v → t ≤ 128 → bits t (n * 2 ^ w % 2 ^ 128) ≡ bits v n ++ bits w 0
bits-pad n v w t is small room =
    let fits : v + w ≤ 128 = omega arith in
    let none : n * 2 ^ w ≡ n * 2 ^ w + 0 = omega arith in
    rw (is, shl_whole n v w 128 small fits) (ap (bits (v + w)) none ∙ bits-put v w n 0 (pow_pos w))
