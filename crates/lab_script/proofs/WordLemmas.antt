-- Facts of the words and numbers of a line.
use Rattle.std.proofs.Common.{◌≡◌, ◌≢◌, ℕ, ◌<◌, ◌^◌, ◌%◌, ◌∷◌, nat_lt, List, [], Bool, true, false, Option, Some, None, Result, Ok, Err, refl, sym, ap, ◌∙◌, arith, rules, length, take, is_some, option_map, ◌==◌, Bor, MatchOption}
use Rattle.std.specs.Char.{is_ascii_digit, is_ascii_hexdigit}
use Rattle.std.proofs.Math.Seq.{take-length}
use Rattle.std.specs.List.{list_all, onto_first, position_or_len, before_first, after_first}
use Rattle.std.specs.Option.{option_or}
use Rattle.std.specs.Result.{result_ok}
use Rattle.std.specs.Str.Parse.{digits_value, ParsesUnsigned}
use Rattle.std.proofs.lemmas.List.Splits.{slice_split-cons_no, slice_split_first}
use Rattle.std.proofs.lemmas.List.Sums.{AllPass-from_list_all, list_all-from_AllPass}
use Rattle.std.proofs.lemmas.Bool.Decides.{Decides-ltb}
use Rattle.std.proofs.lemmas.Str.Parse.{IsNumeralModel, numerals_by_value, parse_digits}
use Rattle.hex.proofs.HexLemmas.{decode_of-digits, decode_of-ok}
use Rattle.hex.specs.declared.error.FromHexError.{FromHexError}
use Rattle.hex.specs.Hex.{decode_of, is_hex_digit}
use Rattle.lab_script.specs.Words.{words_of, first_word, behind_word, is_space, number_below, octets_of, is_slash, around_slash}

-- a text of digits alone is a numeral
numerals : IsNumeralModel (λ ds. list_all is_ascii_digit ds ≡ true) (digits_value 10)
numerals = numerals_by_value _ (search rules)

-- a value with the digits alone, as `parse` and `ok` give it
pub number_from_parse : {E : Type 0} (limit k : ℕ) (bs : List ℕ) (r : Result ℕ E) → ParsesUnsigned k 10 bs r → 2 ^ k ≡ limit
    → list_all is_ascii_digit bs ≡ true → result_ok r ≡ number_below limit bs
number_from_parse {E = E} limit k bs (Ok x) h e p = let own = parse_digits numerals {E = E} k bs (Ok x) h p in grind (arith, own)
number_from_parse {E = E} limit k bs (Err x) h e p = let own = parse_digits numerals {E = E} k bs (Err x) h p in grind (arith, own)

hex_digit_same : (c : ℕ) → is_ascii_hexdigit c ≡ is_hex_digit c
hex_digit_same c = grind arith

list_all_same : (p q : ℕ → Bool) (xs : List ℕ) → ((x : ℕ) → p x ≡ q x) → list_all p xs ≡ list_all q xs
list_all_same p q [] h = refl
list_all_same p q (x ∷ xs) h = rw (h x, list_all_same p q xs h) refl

-- digits of an even number can be decoded, and no other text of that length
octets_test : (s : List ℕ) → length s ≢ 0 → length s % 2 ≡ 0 → list_all is_hex_digit s ≡ is_some (octets_of s)
octets_test s some even = by_test s (list_all is_hex_digit s) refl some even
  where
    by_test : (s : List ℕ) (b : Bool) → list_all is_hex_digit s ≡ b → length s ≢ 0 → length s % 2 ≡ 0 → b ≡ is_some (octets_of s)
    by_test s true e some even =
        let (bytes, decoded) = decode_of-digits s even (AllPass-from_list_all is_hex_digit s e) in
        rw decoded (search rules)
    by_test s false e some even = refused s (decode_of s) refl e some even
      where
        refused : (s : List ℕ) (r : Result (List ℕ) FromHexError) → decode_of s ≡ r → list_all is_hex_digit s ≡ false → length s ≢ 0 → length s % 2 ≡ 0 → false ≡ is_some (octets_of s)
        refused s (Ok bytes) d e some even =
            let (_, digits, _, _) = decode_of-ok s bytes d in
            let both : true ≡ false = sym (list_all-from_AllPass is_hex_digit s digits) ∙ e in
            absurd (search rules)
        refused s (Err fault) d e some even = rw d (search rules)

pub octets_from_digits : (s : List ℕ) → length s ≢ 0 → length s % 2 ≡ 0 → list_all is_ascii_hexdigit s ≡ is_some (octets_of s)
octets_from_digits s some even = list_all_same is_ascii_hexdigit is_hex_digit s hex_digit_same ∙ octets_test s some even

-- an octet before a text of one word
longer_word : (b : ℕ) (text : List ℕ) → (b == 32) ≡ false → words_of text ≡ text ∷ [] → words_of (b ∷ text) ≡ (b ∷ text) ∷ []
longer_word b text no_blank one = slice_split-cons_no (λ c. c == 32) b text no_blank ∙ ap (onto_first b) one

-- a text without a blank is one word
uncut : (text : List ℕ) → position_or_len (λ b. b == 32) text ≡ length text → words_of text ≡ text ∷ []
uncut [] h = refl
uncut (b ∷ text) h =
    let no_blank : (b == 32) ≡ false = grind (arith, h) in
    longer_word b text no_blank (uncut text (grind (arith, h, no_blank)))

-- a text is cut at its first blank
pub cut_words : (text : List ℕ) (r : Option (Bor (List ℕ) × Bor (List ℕ)))
    → MatchOption r (position_or_len (λ b. b == 32) text ≡ length text) (λ x. (position_or_len (λ b. b == 32) text < length text) × (x.0.now ≡ before_first (λ b. b == 32) text) × (x.1.now ≡ after_first (λ b. b == 32) text))
    → MatchOption r (words_of text ≡ text ∷ []) (λ x. words_of text ≡ x.0.now ∷ words_of x.1.now)
cut_words text None h = uncut text h
cut_words text (Some x) h = slice_split_first (λ b. b == 32) text 0 h.0 ∙ rw (h.1, h.2) refl

-- its first word, and what stands behind that
pub cut_first : (text : List ℕ) (r : Option (Bor (List ℕ) × Bor (List ℕ)))
    → MatchOption r (position_or_len (λ b. b == 32) text ≡ length text) (λ x. (position_or_len (λ b. b == 32) text < length text) × (x.0.now ≡ before_first (λ b. b == 32) text) × (x.1.now ≡ after_first (λ b. b == 32) text))
    → MatchOption r (text ≡ first_word text) (λ x. x.0.now ≡ first_word text)
cut_first text None h = sym (ap (λ n. take n text) h ∙ take-length text)
cut_first text (Some x) h = h.1

pub cut_rest : (text : List ℕ) (r : Option (Bor (List ℕ) × Bor (List ℕ)))
    → MatchOption r (position_or_len (λ b. b == 32) text ≡ length text) (λ x. (position_or_len (λ b. b == 32) text < length text) × (x.0.now ≡ before_first (λ b. b == 32) text) × (x.1.now ≡ after_first (λ b. b == 32) text))
    → option_map (λ x. x.1.now) r ≡ behind_word text
cut_rest text None h =
    let past : nat_lt (position_or_len is_space text) (length text) ≡ false = grind (arith, h) in
    rw past refl
cut_rest text (Some x) h =
    let within : nat_lt (position_or_len is_space text) (length text) ≡ true = (Decides-ltb (position_or_len is_space text) (length text)).1 h.0 in
    rw (within, h.2) refl

-- the words of a text, by how it is cut at its first blank
abbrev pub Cut : List ℕ → Option (Bor (List ℕ) × Bor (List ℕ)) → Type 0
Cut text r = MatchOption r (words_of text ≡ text ∷ []) (λ x. words_of text ≡ x.0.now ∷ words_of x.1.now)

-- a text is cut at its first slash
pub cut_slash : (text : List ℕ) (r : Option (Bor (List ℕ) × Bor (List ℕ)))
    → MatchOption r (position_or_len is_slash text ≡ length text) (λ x. (position_or_len is_slash text < length text) × (x.0.now ≡ before_first is_slash text) × (x.1.now ≡ after_first is_slash text))
    → option_map (λ x. (x.0.now, x.1.now)) r ≡ around_slash text
cut_slash text None h =
    let past : nat_lt (position_or_len is_slash text) (length text) ≡ false = grind (arith, h) in
    rw past refl
cut_slash text (Some x) h =
    let within : nat_lt (position_or_len is_slash text) (length text) ≡ true = (Decides-ltb (position_or_len is_slash text) (length text)).1 h.0 in
    rw (within, h.1, h.2) refl

-- of two readings of a text the first, where it says something, else the second
pub one_said : {T : Type 0} (one other : Option T) → true ≡ is_some one → one ≡ option_or one other
one_said None other e = absurd (search (rules, e))
one_said (Some x) other e = refl

pub other_said : {T : Type 0} (one other : Option T) → false ≡ is_some one → other ≡ option_or one other
other_said None other e = refl
other_said (Some x) other e = absurd (search (rules, e))
