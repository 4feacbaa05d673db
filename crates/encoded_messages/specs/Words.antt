-- The words of a text, and the fields among them. A text is the list of its bytes. Ours, of no standard.
use Rattle.std.specs.Prelude.{◌≡◌, ℕ, ◌==◌, Bool, not, false, nat_lt, if◌then◌else◌, List, [], ◌∷◌, length, Option, Some, None, option_map, option_and_then, bytes_eq}
use Rattle.std.specs.List.{slice_split, list_any, find, filter_map, before_first, after_first, position_or_len}

-- the words of a text: one blank stands between any two
abbrev pub words_of : List ℕ → List (List ℕ)
words_of text = slice_split (λ b. b == 32) text

-- the parts of a list: one comma stands between any two
abbrev pub parts_of : List ℕ → List (List ℕ)
parts_of text = slice_split (λ b. b == 44) text

-- no byte of a text is this one
abbrev pub Lacks : ℕ → List ℕ → Type 0
Lacks mark text = list_any (λ b. b == mark) text ≡ false

-- a text up to the first byte of this value, and what stands behind that
abbrev pub cut_at : ℕ → List ℕ → Option (List ℕ × List ℕ)
cut_at mark text = if nat_lt (position_or_len (λ b. b == mark) text) (length text) then Some (before_first (λ b. b == mark) text, after_first (λ b. b == mark) text) else None

-- what stands behind the blank with which a text begins
abbrev pub behind_blank : List ℕ → Option (List ℕ)
behind_blank [] = None
behind_blank (byte ∷ text) = if byte == 32 then Some text else None

-- what stands before the first `;` of a text, and behind the blank that follows it
abbrev pub around_semicolon : List ℕ → Option (List ℕ × List ℕ)
around_semicolon text = option_and_then (λ cut. option_map (λ words. (cut.0, words)) (behind_blank cut.1)) (cut_at 59 text)

abbrev pub is_same : List ℕ → List ℕ → Bool
is_same word other = bytes_eq other word

-- a word's key and its value: what stands before its first `=`, and behind it
abbrev pub field_of : List ℕ → Option (List ℕ × List ℕ)
field_of word = cut_at 61 word

-- the value of a word that is a field with this key
abbrev pub value_at : List ℕ → Option (List ℕ × List ℕ) → Option (List ℕ)
value_at key None = None
value_at key (Some (found, value)) = if bytes_eq found key then Some value else None

abbrev pub value_in : List ℕ → List ℕ → Option (List ℕ)
value_in key word = value_at key (field_of word)

-- the values of the fields with this key, in the order of their words
abbrev pub values_of : List ℕ → List (List ℕ) → List (List ℕ)
values_of key words = filter_map (value_in key) words

-- the key of a field is one of these
abbrev pub is_key : List (List ℕ) → Option (List ℕ × List ℕ) → Bool
is_key keys None = false
is_key keys (Some (key, value)) = list_any (is_same key) keys

-- a word is a field with one of these keys
abbrev pub is_known : List (List ℕ) → List ℕ → Bool
is_known keys word = is_key keys (field_of word)

-- the first word that is no field with one of these keys
abbrev pub first_unknown : List (List ℕ) → List (List ℕ) → Option (List ℕ)
first_unknown keys words = find (λ word. not (is_known keys word)) words
