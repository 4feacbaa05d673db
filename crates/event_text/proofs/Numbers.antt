-- Numbers and channels: what is written is read, and what is read was written so.
use Rattle.std.proofs.Common.{◌≡◌, ◌≢◌, ℕ, ◌+◌, ◌<◌, ◌≤◌, ◌^◌, ◌==◌, suc, List, [], ◌∷◌, ◌++◌, Bool, true, false, not, if◌then◌else◌, Option, Some, None, option_map, Result, Ok, Err, refl, sym, ap, ◌∙◌, arith, rules, length, get_or, nat_lt, ◌&&◌, ◌||◌, ◌⊎◌, inl, inr, Bor, MatchOption}
use Rattle.std.proofs.lemmas.Bool.{and_parts, cases_lt}
use Rattle.std.proofs.lemmas.Option.{none-some, same_Some}
use Rattle.std.proofs.lemmas.Str.Parse.{IsNumeralModel, numerals_by_value, parse_digits}
use Rattle.std.proofs.lemmas.Fmt.{digits_decimal, digits_value-decimal, decimal_nonempty, first_decimal, decimal_digit, decimal-digits_value}
use Rattle.std.specs.Char.{is_ascii_digit}
use Rattle.std.specs.Fmt.{decimal}
use Rattle.std.specs.List.{list_all}
use Rattle.std.specs.Result.{result_ok}
use Rattle.std.specs.Str.Parse.{digits_value, ParsesUnsigned}
use Rattle.event_text.specs.Reading.{cut_at, is_plain, number_of}

-- CUTS

-- a byte of this value does not stand in the text
abbrev pub Lacks : ℕ → List ℕ → Type 0
Lacks c bs = (i : ℕ) → i < length bs → get_or bs i 0 ≢ c

pub cut_at-none : (c : ℕ) (bs : List ℕ) → Lacks c bs → cut_at c bs ≡ None
cut_at-none c [] h = refl
cut_at-none c (b ∷ bs) h =
    let first : b ≢ c = h 0 (omega arith) in
    let no : (b == c) ≡ false = grind (arith, first) in
    rw (no, cut_at-none c bs (λ i l. h (suc i) (omega arith))) refl

pub cut_at-first : (c : ℕ) (a b : List ℕ) → Lacks c a → cut_at c (a ++ c ∷ b) ≡ Some (a, b)
cut_at-first c [] b h =
    let yes : (c == c) ≡ true = grind arith in
    rw yes refl
cut_at-first c (x ∷ a) b h =
    let first : x ≢ c = h 0 (omega arith) in
    let no : (x == c) ≡ false = grind (arith, first) in
    rw (no, cut_at-first c a b (λ i l. h (suc i) (omega arith))) refl

-- what a cut gives, joined again
pub joined : (c : ℕ) (text a b : List ℕ) → cut_at c text ≡ Some (a, b) → text ≡ a ++ c ∷ b
joined c [] a b e = absurd (none-some (a, b) e)
joined c (x ∷ text) a b e = at (x == c) refl e (λ d f s. joined c text d f s)
  where
    behind : (cut : Option (List ℕ × List ℕ)) → cut_at c text ≡ cut → option_map {U = List ℕ × List ℕ} (λ (p : List ℕ × List ℕ). (x ∷ p.0, p.1)) cut ≡ Some (a, b) → ((d f : List ℕ) → cut_at c text ≡ Some (d, f) → text ≡ d ++ c ∷ f) → x ∷ text ≡ a ++ c ∷ b
    behind None s e more = absurd (none-some (a, b) e)
    behind (Some p) s e more =
        let same : (x ∷ p.0, p.1) ≡ (a, b) = same_Some (x ∷ p.0, p.1) (a, b) e in
        let rest : text ≡ p.0 ++ c ∷ p.1 = more p.0 p.1 s in
        let front : x ∷ p.0 ≡ a = ap (λ (q : List ℕ × List ℕ). q.0) same in
        let back : p.1 ≡ b = ap (λ (q : List ℕ × List ℕ). q.1) same in
        rw (← front, ← back) (ap (λ (t : List ℕ). x ∷ t) rest)

    at : (found : Bool) → (x == c) ≡ found → (if found then Some ([], text) else option_map {U = List ℕ × List ℕ} (λ (p : List ℕ × List ℕ). (x ∷ p.0, p.1)) (cut_at c text)) ≡ Some (a, b) → ((d f : List ℕ) → cut_at c text ≡ Some (d, f) → text ≡ d ++ c ∷ f) → x ∷ text ≡ a ++ c ∷ b
    at true s e more =
        let is_c : x ≡ c = grind (arith, s) in
        let same : ([], text) ≡ (a, b) = same_Some ([], text) (a, b) e in
        let front : [] ≡ a = ap (λ (q : List ℕ × List ℕ). q.0) same in
        let back : text ≡ b = ap (λ (q : List ℕ × List ℕ). q.1) same in
        rw (← front, ← back, is_c) refl
    at false s e more = behind (cut_at c text) refl e more

-- what `split_once` gives is the cut
pub cut_by_split : (c : ℕ) (text : List ℕ) (r : Option (Bor (List ℕ) × Bor (List ℕ)))
    → MatchOption r ((i : ℕ) → i < length text → get_or text i 0 ≢ c) (λ x. (text ≡ x.0.now ++ (c ∷ x.1.now)) × ((i : ℕ) → i < length x.0.now → get_or x.0.now i 0 ≢ c))
    → option_map {U = List ℕ × List ℕ} (λ (cut : Bor (List ℕ) × Bor (List ℕ)). (cut.0.now, cut.1.now)) r ≡ cut_at c text
cut_by_split c text None h = sym (cut_at-none c text h)
cut_by_split c text (Some x) h = sym (ap (cut_at c) h.0 ∙ cut_at-first c x.0.now x.1.now h.1)

-- NUMBERS

-- a text of digits alone is a numeral
pub numerals : IsNumeralModel (λ ds. list_all is_ascii_digit ds ≡ true) (digits_value 10)
numerals = numerals_by_value _ (search rules)

pub plain_digits : (bs : List ℕ) → is_plain bs ≡ true → list_all is_ascii_digit bs ≡ true
plain_digits bs p = (and_parts (list_all is_ascii_digit bs) _ p).0

-- a value with the digits alone, as `parse` and `ok` give it
pub number_from_parse : {E : Type 0} (limit k : ℕ) (bs : List ℕ) (r : Result ℕ E) → ParsesUnsigned k 10 bs r → 2 ^ k ≡ limit
    → is_plain bs ≡ true → result_ok r ≡ number_of limit bs
number_from_parse {E = E} limit k bs (Ok x) h e p = let own = parse_digits numerals {E = E} k bs (Ok x) h (plain_digits bs p) in rw p (grind (arith, own))
number_from_parse {E = E} limit k bs (Err x) h e p = let own = parse_digits numerals {E = E} k bs (Err x) h (plain_digits bs p) in rw p (grind (arith, own))

-- a number's own digits have no zero in front
plain-decimal : (n : ℕ) → n < 2 ^ 64 → is_plain (decimal n) ≡ true
plain-decimal n small =
    let digits : list_all is_ascii_digit (decimal n) ≡ true = digits_decimal numerals n small in
    rw digits (by_size (cases_lt n 10))
  where
    by_size : (n < 10) ⊎ (10 ≤ n) → (nat_lt (length (decimal n)) 2 || not (get_or (decimal n) 0 0 == 48)) ≡ true
    by_size (inl l) = let one : decimal n ≡ (48 + n) ∷ [] = decimal_digit n l in rw one (grind arith)
    by_size (inr l) = let first : 48 < get_or (decimal n) 0 0 = first_decimal n (omega arith) small in grind (arith, first)

pub number_of-decimal : (limit n : ℕ) → limit ≤ 2 ^ 64 → n < limit → number_of limit (decimal n) ≡ Some n
number_of-decimal limit n wide l =
    let small : n < 2 ^ 64 = omega arith in
    let plain = plain-decimal n small in
    let some : nat_lt 0 (length (decimal n)) ≡ true = grind (arith, decimal_nonempty n small) in
    let value : digits_value 10 (decimal n) ≡ n = digits_value-decimal numerals n small in
    let below : nat_lt n limit ≡ true = grind (arith, l) in
    rw (plain, some, value, below) refl

pub record IsNumber (limit : ℕ) (text : List ℕ) (n : ℕ) : Type 0 where
  pub said : text ≡ decimal n
  pub below : n < limit

pub number_of-parts : (limit : ℕ) (text : List ℕ) (n : ℕ) → limit ≤ 2 ^ 64 → number_of limit text ≡ Some n → IsNumber limit text n
number_of-parts limit text n wide e = at (is_plain text && (nat_lt 0 (length text) && nat_lt (digits_value 10 text) limit)) refl e
  where
    at : (b : Bool) → (is_plain text && (nat_lt 0 (length text) && nat_lt (digits_value 10 text) limit)) ≡ b → (if b then Some (digits_value 10 text) else None) ≡ Some n → IsNumber limit text n
    at false t e = absurd (none-some n e)
    at true t e =
        let (plain, (some, below)) = parts t in
        let value : digits_value 10 text ≡ n = same_Some (digits_value 10 text) n e in
        let own : decimal (digits_value 10 text) ≡ text = decimal-digits_value numerals text (plain_digits text plain) (grind (arith, some)) (one_zero text plain) (grind (arith, below)) in
        record { said = sym own ∙ ap decimal value; below = rw (← value) (grind (arith, below)) }
      where
        parts : (is_plain text && (nat_lt 0 (length text) && nat_lt (digits_value 10 text) limit)) ≡ true → (is_plain text ≡ true) × ((nat_lt 0 (length text) ≡ true) × (nat_lt (digits_value 10 text) limit ≡ true))
        parts t = let (a, b) = and_parts _ _ t in (a, and_parts _ _ b)

        one_zero : (text : List ℕ) → is_plain text ≡ true → get_or text 0 0 ≡ 48 → length text ≡ 1
        one_zero [] plain first = absurd (omega arith)
        one_zero (b ∷ bs) plain first =
            let short : (nat_lt (length (b ∷ bs)) 2 || not (b == 48)) ≡ true = (and_parts (list_all is_ascii_digit (b ∷ bs)) _ plain).1 in
            grind (arith, short, first)
