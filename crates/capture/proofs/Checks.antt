-- The check of a checksum succeeds.
use Rattle.std.proofs.Common.{◌≡◌, ◌∙◌, ◌<◌, ap, sym, refl, ℕ, ◌+◌, ◌-◌, ◌*◌, ◌/◌, ◌%◌, List, [], ◌∷◌, ◌++◌, length, nat_lt, if◌then◌else◌, arith}
use Rattle.std.proofs.lemmas.Bool.Decides.{nat_tests}
use Rattle.std.specs.List.{AllByRecursion}
use Rattle.capture.specs.Numbers.{two}
use Rattle.capture.specs.Checksum.{words, ones_add, ones_sum, checksum, AreOctets, Succeeds, ChecksSucceed}
use Rattle.capture.proofs.Sums.{words-append, ones_sum-append}

abbrev AreWords : List ℕ → Type 0
AreWords ws = AllByRecursion (λ w. w < 65536) ws

words_fit : (octets : List ℕ) → AreOctets octets → AreWords (words octets)
unfolding words
words_fit [] fit = fit
words_fit (a ∷ []) fit = (omega (arith, fit.0), fit.1)
words_fit (a ∷ b ∷ octets) fit = (omega (arith, fit.0, fit.1.0), words_fit octets fit.1.1)

add_fits : (a b : ℕ) → a < 65536 → b < 65536 → ones_add a b < 65536
unfolding ones_add
add_fits a b p q = grind (arith, nat_tests)

sum_fits : (before : ℕ) (ws : List ℕ) → before < 65536 → AreWords ws → ones_sum before ws < 65536
unfolding ones_sum
sum_fits before [] p fit = p
sum_fits before (w ∷ ws) p fit = sum_fits (ones_add before w) ws (add_fits before w p fit.0) fit.1

-- of two that are added, either may come first
add_swap : (a b c : ℕ) → a < 65536 → b < 65536 → c < 65536 → ones_add (ones_add a b) c ≡ ones_add (ones_add a c) b
unfolding ones_add
add_swap a b c p q r = grind (arith, nat_tests)

-- what is added before the others may come last
sum_last : (a b : ℕ) (ws : List ℕ) → a < 65536 → b < 65536 → AreWords ws → ones_sum (ones_add a b) ws ≡ ones_add (ones_sum a ws) b
unfolding ones_sum
sum_last a b [] p q fit = refl
sum_last a b (w ∷ ws) p q fit =
    ap (λ s. ones_sum s ws) (add_swap a b w p q fit.0) ∙ sum_last (ones_add a w) b ws (add_fits a w p fit.0) q fit.1

add_none : (a : ℕ) → a < 65536 → ones_add a 0 ≡ a
unfolding ones_add
add_none a p = grind (arith, nat_tests)

add_complement : (a : ℕ) → a < 65536 → ones_add a (65535 - a) ≡ 65535
unfolding ones_add
add_complement a p = grind (arith, nat_tests)

-- the sum over octets of which two, behind an even number, are a number of sixteen bits: that number may come last
sum_with : (front back : List ℕ) (n : ℕ) → n < 65536 → AreOctets front → AreOctets back → length front % 2 ≡ 0
    → ones_sum 0 (words (front ++ (two n ++ back))) ≡ ones_add (ones_sum (ones_sum 0 (words front)) (words back)) n
unfolding words ones_sum
sum_with front back n small fit fits even =
    let whole : n / 256 * 256 + n % 256 ≡ n = omega arith in
    ap (ones_sum 0) (words-append front (two n ++ back) even)
    ∙ ones_sum-append 0 (words front) (words (two n ++ back))
    ∙ ap (λ w. ones_sum (ones_add (ones_sum 0 (words front)) w) (words back)) whole
    ∙ sum_last (ones_sum 0 (words front)) n (words back) (sum_fits 0 (words front) (omega arith) (words_fit front fit)) small (words_fit back fits)

pub checks : ChecksSucceed
unfolding checksum
checks front back fit fits even =
    let first = sum_fits 0 (words front) (omega arith) (words_fit front fit) in
    let small = sum_fits (ones_sum 0 (words front)) (words back) first (words_fit back fits) in
    let same : ones_sum 0 (words (front ++ (two 0 ++ back))) ≡ ones_sum (ones_sum 0 (words front)) (words back) =
    sum_with front back 0 (omega arith) fit fits even ∙ add_none (ones_sum (ones_sum 0 (words front)) (words back)) small in
    rw same (sum_with front back (65535 - ones_sum (ones_sum 0 (words front)) (words back)) (omega arith) fit fits even
    ∙ add_complement (ones_sum (ones_sum 0 (words front)) (words back)) small)
