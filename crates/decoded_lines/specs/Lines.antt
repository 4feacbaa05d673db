-- What a line of octet texts says. A text is the list of its bytes. Ours, of no standard.
use Rattle.std.specs.Prelude.{ℕ, ◌==◌, ◌||◌, Bool, if◌then◌else◌, List, [], ◌∷◌, Option, Some, None, option_map}
use Rattle.std.specs.List.{list_all, position, before_first, after_first}
use Rattle.std.specs.Str.Lines.{strip_carriage_return}
use Rattle.std.specs.Fmt.{option_append}
use Rattle.std.specs.Result.{result_ok}
use Rattle.hex.specs.Hex.{decode_sized}

-- a blank or a tab
abbrev pub is_gap : ℕ → Bool
is_gap b = b == 32 || b == 9

-- what may stand around octets: a blank, a tab or a colon
abbrev pub is_separator : ℕ → Bool
is_separator b = is_gap b || b == 58

-- `#`
abbrev pub is_mark : ℕ → Bool
is_mark b = b == 35

-- what stands before the first `#` of a line
abbrev pub text_of : List ℕ → List ℕ
text_of line = before_first is_mark line

-- what stands behind it, where there is one
abbrev pub note_of : List ℕ → Option (List ℕ)
note_of line = option_map (λ _. after_first is_mark line) (position is_mark line)

-- the text of a line without the carriage return that may end it
abbrev pub text_in : List ℕ → List ℕ
text_in line = text_of (strip_carriage_return line)

abbrev pub note_in : List ℕ → Option (List ℕ)
note_in line = note_of (strip_carriage_return line)

-- nothing but blanks and tabs stands before the note of a line
abbrev pub is_blank : List ℕ → Bool
is_blank line = list_all is_gap (text_in line)

-- what stands before the first blank or tab of a text
abbrev pub first_word : List ℕ → List ℕ
first_word text = before_first is_gap text

-- what stands behind it
abbrev pub behind_word : List ℕ → List ℕ
behind_word text = after_first is_gap text

-- the octet of two hexadecimal digits, in either case
abbrev pub octet_of : ℕ → ℕ → Option (List ℕ)
octet_of high low = result_ok (decode_sized (high ∷ low ∷ []) 1)

-- the octets that a text writes: two digits each, with separators before, between and behind them
unfoldable pub octets_of : List ℕ → Option (List ℕ)
octets_of [] = Some []
octets_of (b ∷ []) = if is_separator b then Some [] else None
octets_of (b ∷ c ∷ rest) = if is_separator b then octets_of (c ∷ rest) else option_append (octet_of b c) (octets_of rest)
