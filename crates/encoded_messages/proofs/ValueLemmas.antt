-- Facts of numbers and octets that a text writes.
use Rattle.std.proofs.Common.{◌≡◌, ℕ, ◌^◌, ◌%◌, ◌/◌, ◌<◌, ◌≤◌, ◌∷◌, ◌&&◌, nat_le, nat_lt, Bool, List, [], true, false, if◌then◌else◌, length, Option, Some, None, option_map, option_and_then, Result, Ok, Err, refl, sym, ap, ◌∙◌, arith, rules, inl, inr}
use Rattle.std.proofs.lemmas.Bool.{cases_Bool}
use Rattle.std.proofs.lemmas.Bool.Decides.{nat_tests}
use Rattle.std.specs.Char.{is_ascii_digit, is_ascii_hexdigit}
use Rattle.std.specs.List.{list_all}
use Rattle.std.specs.Result.{result_ok}
use Rattle.std.specs.Str.Parse.{digits_value, ParsesUnsigned}
use Rattle.std.proofs.lemmas.Str.Parse.{IsNumeralModel, numerals_by_value, parse_digits}
use Rattle.std.proofs.lemmas.List.Sums.{AllPass-from_list_all, list_all-from_AllPass}
use Rattle.hex.proofs.HexLemmas.{decode_of-digits, decode_of-odd, decode_of-ok}
use Rattle.hex.specs.declared.error.FromHexError.{FromHexError}
use Rattle.hex.specs.Hex.{decode_of, is_hex_digit}
use Rattle.timeslots.specs.declared.Sub.{Sub}
use Rattle.timeslots.specs.declared.Sub.TheVariants.{Full}
use Rattle.encoded_messages.specs.Chains.{◌>>=◌}
use Rattle.encoded_messages.specs.Values.{number_below, number_to, is_number, half_of, slot_of, at_least, octets_of}

-- a text of digits alone is a numeral
numerals : IsNumeralModel (λ ds. list_all is_ascii_digit ds ≡ true) (digits_value 10)
numerals = numerals_by_value _ (search rules)

-- a value with the digits alone, as `parse` and `ok` give it
pub number_from_parse : {E : Type 0} (limit k : ℕ) (bs : List ℕ) (r : Result ℕ E) → ParsesUnsigned k 10 bs r → 2 ^ k ≡ limit
    → list_all is_ascii_digit bs ≡ true → result_ok r ≡ number_below limit bs
number_from_parse {E = E} limit k bs (Ok x) h e p = let own = parse_digits numerals {E = E} k bs (Ok x) h p in grind (arith, own)
number_from_parse {E = E} limit k bs (Err x) h e p = let own = parse_digits numerals {E = E} k bs (Err x) h p in grind (arith, own)

hex_digit_same : (c : ℕ) → is_ascii_hexdigit c ≡ is_hex_digit c
hex_digit_same c = grind arith

list_all_same : (p q : ℕ → Bool) (xs : List ℕ) → ((x : ℕ) → p x ≡ q x) → list_all p xs ≡ list_all q xs
list_all_same p q [] h = refl
list_all_same p q (x ∷ xs) h = rw (h x, list_all_same p q xs h) refl

-- how many octets a text writes, where it writes so many or more
abbrev pub count_of : ℕ → List ℕ → Option ℕ
count_of least text = option_map (λ octets. length octets) (octets_of least text)

-- one of odd length writes none
pub odd_refused : (least : ℕ) (text : List ℕ) → length text % 2 ≡ 1 → count_of least text ≡ None
odd_refused least text odd = rw (decode_of-odd text odd) refl

-- nor does one with another character
pub digits_refused : (least : ℕ) (text : List ℕ) → list_all is_ascii_hexdigit text ≡ false → count_of least text ≡ None
digits_refused least text other = by_read (decode_of text) refl
  where
    by_read : (r : Result (List ℕ) FromHexError) → decode_of text ≡ r → count_of least text ≡ None
    by_read (Ok bytes) e =
        let (_, digits, _, _) = decode_of-ok text bytes e in
        let both : true ≡ false = sym (list_all-from_AllPass is_hex_digit text digits) ∙ (sym (list_all_same is_ascii_hexdigit is_hex_digit text hex_digit_same) ∙ other) in
        absurd (search rules)
    by_read (Err fault) e = rw e refl

-- any other writes half as many
read_half : (text : List ℕ) → length text % 2 ≡ 0 → list_all is_ascii_hexdigit text ≡ true → (bytes : List ℕ) × (decode_of text ≡ Ok bytes) × (length bytes ≡ length text / 2)
read_half text even digits =
    let (bytes, decoded) = decode_of-digits text even (AllPass-from_list_all is_hex_digit text (sym (list_all_same is_ascii_hexdigit is_hex_digit text hex_digit_same) ∙ digits)) in
    let (_, _, twice, _) = decode_of-ok text bytes decoded in
    (bytes, decoded, omega (arith, twice))

pub enough_counted : (least : ℕ) (text : List ℕ) → length text % 2 ≡ 0 → list_all is_ascii_hexdigit text ≡ true → least ≤ length text / 2 → count_of least text ≡ Some (length text / 2)
enough_counted least text even digits enough =
    let (bytes, decoded, half) = read_half text even digits in
    let long : nat_le least (length bytes) ≡ true = grind (arith, half, enough) in
    rw (decoded, long) (ap Some half)

pub few_refused : (least : ℕ) (text : List ℕ) → length text % 2 ≡ 0 → list_all is_ascii_hexdigit text ≡ true → length text / 2 < least → count_of least text ≡ None
few_refused least text even digits few =
    let (bytes, decoded, half) = read_half text even digits in
    let short : nat_le least (length bytes) ≡ false = grind (arith, half, few) in
    rw (decoded, short) refl

-- what is said in two steps
both_said : {X Y : Type 0} (o : Option X) (f : X → Option Y) (y : Y) → (o >>= f) ≡ Some y → (x : X) × (o ≡ Some x) × (f x ≡ Some y)
both_said (Some x) f y h = (x, refl, h)
both_said None f y h = absurd cc

-- octets that are so many or more
pub enough : (least : ℕ) (v : List ℕ) (o : Option (List ℕ)) → option_and_then (at_least least) o ≡ Some v → least ≤ length v
enough least v None h = absurd cc
enough least v (Some octets) h = elim (cases_Bool (nat_le least (length octets))) [
  | inl e ↦ let some : Some octets ≡ Some v = ap (λ b. if b then Some octets else None) (sym e) ∙ h in let same : octets ≡ v = cc in grind (arith, nat_tests, e, same)
  | inr e ↦ let none : None ≡ Some v = ap (λ b. if b then Some octets else None) (sym e) ∙ h in absurd cc
]

-- a number that is below a limit
below : (limit n : ℕ) (text : List ℕ) → number_below limit text ≡ Some n → n < limit
below limit n text h = by (is_number text) (nat_lt (digits_value 10 text) limit) refl h
  where
    by : (p q : Bool) → nat_lt (digits_value 10 text) limit ≡ q → (if p && q then Some (digits_value 10 text) else None) ≡ Some n → n < limit
    by true true e h = let same : digits_value 10 text ≡ n = cc in grind (arith, nat_tests, e, same)
    by true false e h = absurd cc
    by false q e h = absurd cc

-- the timeslot of a channel is below 8
pub slot_low : (channel : ℕ × Sub) (text : List ℕ) (cut : Option (List ℕ × List ℕ)) → slot_of text cut ≡ Some channel → channel.0 < 8
slot_low channel text None h =
    let (tn, read, is) = both_said (number_to 7 text) (λ tn. Some (tn, Full)) channel h in
    let low = below 8 tn text read in
    let same : tn ≡ channel.0 = cc in
    omega arith
slot_low channel text (Some p) h =
    let (tn, read, is) = both_said (number_to 7 p.0) (λ tn. half_of p.1 >>= (λ half. Some (tn, half))) channel h in
    let (half, _, made) = both_said (half_of p.1) (λ half. Some (tn, half)) channel is in
    let low = below 8 tn p.0 read in
    let same : tn ≡ channel.0 = cc in
    omega arith
