-- What the first octets of a text say.
use Rattle.std.proofs.Common.{◌≡◌, ℕ, ◌<◌, ◌≤◌, List, [], ◌∷◌, ◌++◌, true, false, Option, Some, None, option_map, refl, sym, ap, subst, ◌∙◌, ◌-◌, append_assoc, arith, rules, length, take, drop, slice_index}
use Rattle.std.proofs.lemmas.List.{length-drop}
use Rattle.std.proofs.Math.Seq.{take-length}
use Rattle.std.specs.Fmt.{option_append}
use Rattle.decoded_lines.specs.Lines.{is_separator, octet_of, octets_of}

pub behind_separator : (b : ℕ) (rest : List ℕ) → is_separator b ≡ true → octets_of (b ∷ rest) ≡ octets_of rest
unfolding octets_of
behind_separator b [] e = rw e refl
behind_separator b (c ∷ rest) e = rw e refl

pub half_octet : (b : ℕ) → is_separator b ≡ false → octets_of (b ∷ []) ≡ None
unfolding octets_of
half_octet b e = rw e refl

pub no_octet : (b c : ℕ) (rest : List ℕ) → is_separator b ≡ false → octet_of b c ≡ None → octets_of (b ∷ c ∷ rest) ≡ None
unfolding octets_of
no_octet b c rest e none = rw (e, none) refl

-- what was read, and what the rest writes, with one octet more in what was read
pub next_octet : (b c : ℕ) (rest octets octet : List ℕ) → is_separator b ≡ false → octet_of b c ≡ Some octet
    → option_map (λ more. (octets ++ octet) ++ more) (octets_of rest) ≡ option_map (λ more. octets ++ more) (octets_of (b ∷ c ∷ rest))
unfolding octets_of
next_octet b c rest octets octet e some = rw (e, some) (by_rest (octets_of rest))
  where
    by_rest : (found : Option (List ℕ)) → option_map (λ more. (octets ++ octet) ++ more) found ≡ option_map (λ more. octets ++ more) (option_append (Some octet) found)
    by_rest (Some more) = ap Some (append_assoc octets octet more)
    by_rest None = refl

-- what is left of a text behind its first octet
abbrev pub tail : List ℕ → List ℕ
tail xs = take (length xs - 1) (drop 1 xs)

tail_is : (xs : List ℕ) → tail xs ≡ drop 1 xs
tail_is xs = ap (λ k. take k (drop 1 xs)) (sym (length-drop 1 xs)) ∙ take-length (drop 1 xs)

skip_own : (xs : List ℕ) → 1 ≤ length xs → is_separator (slice_index xs 0) ≡ true → octets_of (drop 1 xs) ≡ octets_of xs
skip_own [] some e = absurd (omega arith)
skip_own (b ∷ rest) some e = sym (behind_separator b rest e)

half_own : (xs : List ℕ) → 1 ≤ length xs → length (drop 1 xs) < 1 → is_separator (slice_index xs 0) ≡ false → octets_of xs ≡ None
half_own [] some short e = absurd (omega arith)
half_own (b ∷ []) some short e = half_octet b e
half_own (b ∷ c ∷ rest) some short e = absurd (omega arith)

bad_own : (xs : List ℕ) → 1 ≤ length xs → 1 ≤ length (drop 1 xs) → is_separator (slice_index xs 0) ≡ false
    → octet_of (slice_index xs 0) (slice_index (drop 1 xs) 0) ≡ None → octets_of xs ≡ None
bad_own [] some two e none = absurd (omega arith)
bad_own (b ∷ []) some two e none = absurd (omega arith)
bad_own (b ∷ c ∷ rest) some two e none = no_octet b c rest e none

more_own : (xs octets octet : List ℕ) → 1 ≤ length xs → 1 ≤ length (drop 1 xs) → is_separator (slice_index xs 0) ≡ false
    → octet_of (slice_index xs 0) (slice_index (drop 1 xs) 0) ≡ Some octet
    → option_map (λ more. (octets ++ octet) ++ more) (octets_of (drop 1 (drop 1 xs))) ≡ option_map (λ more. octets ++ more) (octets_of xs)
more_own [] octets octet some two e read = absurd (omega arith)
more_own (b ∷ []) octets octet some two e read = absurd (omega arith)
more_own (b ∷ c ∷ rest) octets octet some two e read = next_octet b c rest octets octet e read

-- A separator in front is passed over, of a text whose first octets are read by their places.
pub skip : (xs : List ℕ) → 1 ≤ length xs → is_separator (slice_index xs 0) ≡ true → octets_of (tail xs) ≡ octets_of xs
skip xs some e = ap octets_of (tail_is xs) ∙ skip_own xs some e

pub half : (xs : List ℕ) → 1 ≤ length xs → length (tail xs) < 1 → is_separator (slice_index xs 0) ≡ false → octets_of xs ≡ None
half xs some short e = half_own xs some (subst (λ (t : List ℕ). length t < 1) (tail_is xs) short) e

pub bad : (xs : List ℕ) → 1 ≤ length xs → 1 ≤ length (tail xs) → is_separator (slice_index xs 0) ≡ false
    → octet_of (slice_index xs 0) (slice_index (tail xs) 0) ≡ None → octets_of xs ≡ None
bad xs some two e none =
    bad_own xs some (subst (λ (t : List ℕ). 1 ≤ length t) (tail_is xs) two) e
    (subst (λ (t : List ℕ). octet_of (slice_index xs 0) (slice_index t 0) ≡ None) (tail_is xs) none)

pub more : (xs octets octet : List ℕ) → 1 ≤ length xs → 1 ≤ length (tail xs) → is_separator (slice_index xs 0) ≡ false
    → octet_of (slice_index xs 0) (slice_index (tail xs) 0) ≡ Some octet
    → option_map (λ more. (octets ++ octet) ++ more) (octets_of (tail (tail xs))) ≡ option_map (λ more. octets ++ more) (octets_of xs)
more xs octets octet some two e read =
    let twice : tail (tail xs) ≡ drop 1 (drop 1 xs) = tail_is (tail xs) ∙ ap (drop 1) (tail_is xs) in
    ap (λ (t : List ℕ). option_map {T = List ℕ} {U = List ℕ} (λ more. (octets ++ octet) ++ more) (octets_of t)) twice
    ∙ more_own xs octets octet some (subst (λ (t : List ℕ). 1 ≤ length t) (tail_is xs) two) e
    (subst (λ (t : List ℕ). octet_of (slice_index xs 0) (slice_index t 0) ≡ Some octet) (tail_is xs) read)

pub done : (xs octets : List ℕ) → length xs < 1 → Some octets ≡ option_map (λ more. octets ++ more) (octets_of xs)
unfolding octets_of
done [] octets short = ap Some (search rules)
done (b ∷ rest) octets short = absurd (omega arith)
