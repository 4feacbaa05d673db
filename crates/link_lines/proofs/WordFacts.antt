-- Words and numbers: what is written is read.
use Rattle.std.proofs.Common.{◌≡◌, ◌⊎◌, inl, inr, ℕ, zero, suc, ◌+◌, ◌*◌, ◌/◌, ◌%◌, ◌<◌, ◌≤◌, ◌^◌, ◌==◌, ◌||◌, ◌&&◌, List, [], ◌∷◌, ◌++◌, Bool, true, false, Option, Some, None, Ok, refl, sym, ap, ◌∙◌, arith, rules, length, length-append, get_or, slice_index, take, drop, nat_lt, codes}
use Rattle.std.proofs.Math.Seq.{take-length, take-append_seam, drop-append-add}
use Rattle.std.proofs.lemmas.Bool.{and_parts, cases_lt, eqb-true}
use Rattle.std.proofs.lemmas.Bool.Decides.{Decides-ltb}
use Rattle.std.proofs.lemmas.Fmt.{digits_decimal, digits_value-decimal, decimal_nonempty, hex_byte}
use Rattle.std.proofs.lemmas.Str.Parse.{IsNumeralModel, numerals_by_value}
use Rattle.std.specs.Char.{is_ascii_digit}
use Rattle.std.specs.Fmt.{decimal, digit_glyph}
use Rattle.std.specs.List.{list_all, list_any, flat_map, position_or_len}
use Rattle.std.proofs.lemmas.List.{flat_map_more, take_more}
use Rattle.std.specs.Result.{result_ok}
use Rattle.std.specs.Str.Parse.{digits_value}
use Rattle.hex.specs.Hex.{IsBytes, decode_of, encode_lower, encode_with, lower_digits}
use Rattle.hex.proofs.HexLemmas.{decode_of-encode_lower, length-encode_with}
use Rattle.timeslots.specs.declared.Sub.{Sub}
use Rattle.timeslots.specs.declared.Sub.TheVariants.{Full, Half0, Half1}
use Rattle.channel_fsm.specs.Text.{timeslot_text}
use Rattle.encoded_messages.specs.Words.{Lacks}
use Rattle.lab_script.specs.Words.{first_word, behind_word, number_below, octets_of, around_slash, timeslot_of}
use Rattle.link_lines.specs.Text.{hex_octet, hex_text}

-- CUTS

or_parts : (a b : Bool) → (a || b) ≡ false → (a ≡ false) × (b ≡ false)
or_parts false b e = (refl, e)
or_parts true b e = absurd (search (rules, e))

-- the first place of a mark
cut_place : (mark : ℕ) (w rest : List ℕ) → Lacks mark w → position_or_len (λ b. b == mark) (w ++ mark ∷ rest) ≡ length w
cut_place mark [] rest h =
    let yes : (mark == mark) ≡ true = grind arith in
    rw yes refl
cut_place mark (b ∷ w) rest h =
    let parts = or_parts (b == mark) (list_any (λ b. b == mark) w) h in
    let no : (b == mark) ≡ false = parts.0 in
    let more : position_or_len (λ b. b == mark) (w ++ mark ∷ rest) ≡ length w = cut_place mark w rest parts.1 in
    grind (arith, no, more)

no_place : (mark : ℕ) (w : List ℕ) → Lacks mark w → position_or_len (λ b. b == mark) w ≡ length w
no_place mark [] h = refl
no_place mark (b ∷ w) h =
    let parts = or_parts (b == mark) (list_any (λ b. b == mark) w) h in
    let no : (b == mark) ≡ false = parts.0 in
    let more : position_or_len (λ b. b == mark) w ≡ length w = no_place mark w parts.1 in
    grind (arith, no, more)

within : (mark : ℕ) (w rest : List ℕ) → nat_lt (length w) (length (w ++ mark ∷ rest)) ≡ true
within mark w rest = (Decides-ltb (length w) (length (w ++ mark ∷ rest))).1 (omega (arith, length-append w (mark ∷ rest)))

past : (w : List ℕ) → nat_lt (length w) (length w) ≡ false
past w = grind arith

behind : (mark : ℕ) (w rest : List ℕ) → drop (length w + 1) (w ++ mark ∷ rest) ≡ rest
behind mark w rest = drop-append-add w (mark ∷ rest) 1

-- a word before a blank, and what stands behind that
pub word_first : (w rest : List ℕ) → Lacks 32 w → first_word (w ++ 32 ∷ rest) ≡ w
word_first w rest h = ap (λ n. take n (w ++ 32 ∷ rest)) (cut_place 32 w rest h) ∙ take-append_seam w (32 ∷ rest)

pub word_behind : (w rest : List ℕ) → Lacks 32 w → behind_word (w ++ 32 ∷ rest) ≡ Some rest
word_behind w rest h = rw (cut_place 32 w rest h, within 32 w rest, behind 32 w rest) refl

-- the last word
pub last_first : (w : List ℕ) → Lacks 32 w → first_word w ≡ w
last_first w h = ap (λ n. take n w) (no_place 32 w h) ∙ take-length w

pub last_behind : (w : List ℕ) → Lacks 32 w → behind_word w ≡ None
last_behind w h = rw (no_place 32 w h, past w) refl

slash_cut : (w rest : List ℕ) → Lacks 47 w → around_slash (w ++ 47 ∷ rest) ≡ Some (w, rest)
slash_cut w rest h = rw (cut_place 47 w rest h, within 47 w rest, take-append_seam w (47 ∷ rest), behind 47 w rest) refl

no_slash : (w : List ℕ) → Lacks 47 w → around_slash w ≡ None
no_slash w h = rw (no_place 47 w h, past w) refl

-- NUMBERS

numerals : IsNumeralModel (λ ds. list_all is_ascii_digit ds ≡ true) (digits_value 10)
numerals = numerals_by_value _ (search rules)

pub number_read : (limit n : ℕ) → limit ≤ 2 ^ 64 → n < limit → number_below limit (decimal n) ≡ Some n
number_read limit n wide l =
    let small : n < 2 ^ 64 = omega arith in
    let digits : list_all is_ascii_digit (decimal n) ≡ true = digits_decimal numerals n small in
    let some : nat_lt 0 (length (decimal n)) ≡ true = grind (arith, decimal_nonempty n small) in
    let value : digits_value 10 (decimal n) ≡ n = digits_value-decimal numerals n small in
    let below : nat_lt n limit ≡ true = grind (arith, l) in
    rw (some, digits, value, below) refl

digits_lack : (mark : ℕ) (bs : List ℕ) → mark < 48 → list_all is_ascii_digit bs ≡ true → Lacks mark bs
digits_lack mark [] small h = refl
digits_lack mark (b ∷ bs) small h =
    let parts = and_parts (is_ascii_digit b) (list_all is_ascii_digit bs) h in
    let no : (b == mark) ≡ false = grind (arith, parts.0) in
    rw (no, digits_lack mark bs small parts.1) refl

-- digits have no mark before them in ASCII, as a blank or a slash
pub decimal_lacks : (mark n : ℕ) → mark < 48 → n < 2 ^ 64 → Lacks mark (decimal n)
decimal_lacks mark n small fits = digits_lack mark (decimal n) small (digits_decimal numerals n fits)

lacks_append : (mark : ℕ) (a b : List ℕ) → Lacks mark a → Lacks mark b → Lacks mark (a ++ b)
lacks_append mark [] b h k = k
lacks_append mark (x ∷ a) b h k =
    let parts = or_parts (x == mark) (list_any (λ b. b == mark) a) h in
    rw (parts.0, lacks_append mark a b parts.1 k) refl

-- TIMESLOTS

pub timeslot_lacks : (tn : ℕ) (sub : Sub) → tn < 8 → Lacks 32 (timeslot_text tn sub)
timeslot_lacks tn Full f = decimal_lacks 32 tn (omega arith) (omega arith)
timeslot_lacks tn Half0 f = lacks_append 32 (decimal tn) (codes "/0") (decimal_lacks 32 tn (omega arith) (omega arith)) refl
timeslot_lacks tn Half1 f = lacks_append 32 (decimal tn) (codes "/1") (decimal_lacks 32 tn (omega arith) (omega arith)) refl

pub timeslot_read : (tn : ℕ) (sub : Sub) → tn < 8 → timeslot_of (timeslot_text tn sub) ≡ Some (tn, sub)
unfolding timeslot_of
timeslot_read tn Full f = rw (no_slash (decimal tn) (decimal_lacks 47 tn (omega arith) (omega arith)), number_read 8 tn (omega arith) f) refl
timeslot_read tn Half0 f = rw (slash_cut (decimal tn) (codes "0") (decimal_lacks 47 tn (omega arith) (omega arith)), number_read 8 tn (omega arith) f) refl
timeslot_read tn Half1 f = rw (slash_cut (decimal tn) (codes "1") (decimal_lacks 47 tn (omega arith) (omega arith)), number_read 8 tn (omega arith) f) refl

-- OCTETS

-- the digits of a table are those that are written
abbrev same_at : ℕ → Bool
same_at d = digit_glyph false d == slice_index lower_digits d

abbrev all_same : ℕ → Bool
all_same zero = true
all_same (suc n) = same_at n && all_same n

digit_by : (n k : ℕ) → all_same n ≡ true → k < n → same_at k ≡ true
digit_by zero k h l = absurd (omega arith)
digit_by (suc n) k h l =
    let parts = and_parts (same_at n) (all_same n) h in
    elim (cases_lt k n) [
      | inl below ↦ digit_by n k parts.1 below
      | inr top ↦
          let e : k ≡ n = omega arith in
          rw e parts.0
    ]

digit_is : (d : ℕ) → d < 16 → digit_glyph false d ≡ slice_index lower_digits d
digit_is d l = eqb-true (digit_glyph false d) (slice_index lower_digits d) (digit_by 16 d refl l)

hex_is : (octets : List ℕ) → IsBytes octets → hex_text octets ≡ encode_lower octets
unfolding encode_with
hex_is [] bytes = refl
hex_is (octet ∷ octets) bytes =
    let small : octet < 256 = bytes 0 in
    rw (hex_byte false octet small, digit_is (octet / 16) (omega arith), digit_is (octet % 16) (omega arith), hex_is octets (λ i. bytes (suc i))) refl

pub hex_read : (octets : List ℕ) → IsBytes octets → 0 < length octets → octets_of (hex_text octets) ≡ Some octets
hex_read octets bytes some =
    let long : length (encode_lower octets) ≡ 2 * length octets = length-encode_with lower_digits octets in
    let filled : (length (encode_lower octets) == 0) ≡ false = grind (arith, long, some) in
    rw (hex_is octets bytes, filled, decode_of-encode_lower octets bytes) refl

-- what is written of one octet more
pub one_more : (octets : List ℕ) (i : ℕ) → i < length octets → hex_text (take i octets) ++ hex_octet (get_or octets i 0) ≡ hex_text (take (i + 1) octets)
one_more octets i l = flat_map_more hex_octet [] (take i octets) (get_or octets i 0) ∙ ap (flat_map hex_octet) (sym (take_more octets i 0 l))
