-- Sums over octets one behind the other.
use Rattle.std.proofs.Common.{◌≡◌, ◌∙◌, ◌<◌, ◌≤◌, ap, sym, refl, get_or, take, drop, ℕ, ◌+◌, ◌-◌, ◌*◌, ◌%◌, List, [], ◌∷◌, ◌++◌, length, arith}
use Rattle.std.proofs.lemmas.List.{take_rest}
use Rattle.capture.specs.Checksum.{words, ones_add, ones_sum}

-- octets in front that are an even number are paired among themselves
pub words-append : (xs ys : List ℕ) → length xs % 2 ≡ 0 → words (xs ++ ys) ≡ words xs ++ words ys
unfolding words
words-append [] ys even = refl
words-append (a ∷ []) ys even = absurd (omega arith)
words-append (a ∷ b ∷ xs) ys even = ap (λ ws. (a * 256 + b) ∷ ws) (words-append xs ys (omega arith))

-- a sum goes on behind the first numbers
pub ones_sum-append : (before : ℕ) (xs ys : List ℕ) → ones_sum before (xs ++ ys) ≡ ones_sum (ones_sum before xs) ys
unfolding ones_sum
ones_sum-append before [] ys = refl
ones_sum-append before (x ∷ xs) ys = ones_sum-append (ones_add before x) xs ys

-- the sum over octets, of which there are two or more: the first two are added, and then the rest
pub sum_step : (before : ℕ) (s : List ℕ) → 2 ≤ length s → ones_sum before (words s) ≡ ones_sum (ones_add before (get_or s 0 0 * 256 + get_or s 1 0)) (words (take (length s - 2) (drop 2 s)))
unfolding words ones_sum
sum_step before [] some = absurd (omega arith)
sum_step before (a ∷ []) some = absurd (omega arith)
sum_step before (a ∷ b ∷ s) some = ap (λ rest. ones_sum (ones_add before (a * 256 + b)) (words rest)) (sym (take_rest (a ∷ b ∷ s) 2))

-- of one octet
pub sum_one : (before : ℕ) (s : List ℕ) → 1 ≤ length s → length s < 2 → ones_sum before (words s) ≡ ones_add before (get_or s 0 0 * 256)
unfolding words ones_sum
sum_one before [] some one = absurd (omega arith)
sum_one before (a ∷ []) some one = refl
sum_one before (a ∷ b ∷ s) some one = absurd (omega arith)

-- of none
pub sum_none : (before : ℕ) (s : List ℕ) → length s < 1 → ones_sum before (words s) ≡ before
unfolding words ones_sum
sum_none before [] none = refl
sum_none before (a ∷ s) none = absurd (omega arith)
