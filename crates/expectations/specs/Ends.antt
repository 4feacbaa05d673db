-- Texts with which another begins, and which end where a word of that does, or between two of its octets. A text is the list of its bytes.
-- Ours, of no standard.
use Rattle.std.specs.Prelude.{ℕ, ◌==◌, ◌&&◌, ◌||◌, Bool, true, false, not, nat_eq, if◌then◌else◌, List, [], ◌∷◌, length, codes, Option, Some, None}
use Rattle.std.specs.List.{starts_with, list_any}
use Rattle.expectations.specs.Marks.{without_mark}
use Rattle.expectations.specs.Stars.{is_end, rest_like}

abbrev pub last_from : List ℕ → List ℕ → List ℕ
last_from [] word = word
last_from (b ∷ bs) word = last_from bs (if b == 32 then bs else word)

-- what stands behind the last blank
abbrev pub last_word : List ℕ → List ℕ
last_word text = last_from text text

-- an even number of bytes, or of further ones, stands before the first that ends a word, or before the end
abbrev pub is_even : List ℕ → Bool → Bool
is_even [] even = even
is_even (b ∷ bs) even = if is_end b then even else is_even bs (not even)

-- a text ends a word, or has none: these stand behind it
abbrev pub ends_word : List ℕ → List ℕ → Bool
ends_word text [] = true
ends_word text (b ∷ bs) = is_end b || (length (last_word text) == 0)

-- a field whose value is octets
abbrev pub has_octets : List ℕ → Bool
has_octets word = starts_with nat_eq word (codes "layer3=") || (starts_with nat_eq word (codes "mode=") || (starts_with nat_eq word (codes "uplink=") || (starts_with nat_eq word (codes "classmark=") || (starts_with nat_eq word (codes "channel=") || starts_with nat_eq word (codes "encryption=")))))

-- a message, whose octets are its last word
abbrev pub is_message : List ℕ → Bool
is_message line = starts_with nat_eq line (codes "in abis ") || (starts_with nat_eq line (codes "out abis ") || (starts_with nat_eq line (codes "in a ") || starts_with nat_eq line (codes "out a ")))

abbrev pub has_blank : List ℕ → Bool
has_blank text = list_any (λ b. b == 32) text

-- whole octets, and nothing else
abbrev pub are_whole : List ℕ → Bool
are_whole rest = is_even rest true && not (has_blank rest)

abbrev pub begun_line : List ℕ → List ℕ → Option (List ℕ) → Bool
begun_line line text None = false
begun_line line text (Some rest) = ends_word text rest || (is_message (without_mark line) && are_whole rest)

-- a line begins with a text that ends a word, or between octets
abbrev pub begins_line : List ℕ → List ℕ → Bool
begins_line line text = begun_line line text (rest_like line text)

abbrev pub begun_words : List ℕ → Option (List ℕ) → Bool
begun_words text None = false
begun_words text (Some rest) = ends_word text rest || (has_octets (last_word text) && is_even rest true)

-- a line in words begins with a text that ends a word, or between the octets of a field
abbrev pub begins_words : List ℕ → List ℕ → Bool
begins_words words text = begun_words text (rest_like words text)
