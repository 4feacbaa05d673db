-- Texts in which a star stands for any: for a word, for the value of a field, or for a part of a channel. A text is the list of its
-- bytes. Ours, of no standard.
use Rattle.std.specs.Prelude.{ℕ, ◌==◌, ◌&&◌, ◌||◌, Bool, true, false, nat_eq, if◌then◌else◌, List, [], ◌∷◌, length, codes, Option, Some, None}
use Rattle.std.specs.List.{ends_with}

-- a blank, or a semicolon
abbrev pub is_end : ℕ → Bool
is_end b = b == 32 || b == 59

-- what stands behind the word that begins a line, or behind the part of it that a slash ends
abbrev pub behind_star : List ℕ → Bool → List ℕ
behind_star [] is_part = []
behind_star (b ∷ bs) is_part = if is_end b || (is_part && (b == 47)) then b ∷ bs else behind_star bs is_part

abbrev pub begins_with_slash : List ℕ → Bool
begins_with_slash [] = false
begins_with_slash (b ∷ bs) = b == 47

-- what stands behind a byte that begins a line
abbrev pub behind_octet : List ℕ → ℕ → Option (List ℕ)
behind_octet [] octet = None
behind_octet (b ∷ bs) octet = if b == octet then Some bs else None

-- what stands in a line behind what a byte of a text stands for: a star beside a slash for a part, another for a word or a value
abbrev pub behind_one : Option (List ℕ) → ℕ → ℕ → List ℕ → Option (List ℕ)
behind_one None octet before behind = None
behind_one (Some line) octet before behind = if octet == 42 then Some (behind_star line (before == 47 || begins_with_slash behind)) else behind_octet line octet

abbrev pub rest_from : List ℕ → ℕ → Option (List ℕ) → Option (List ℕ)
rest_from [] before found = found
rest_from (b ∷ bs) before found = rest_from bs b (behind_one found b before bs)

-- what stands in a line behind a text with which it begins
abbrev pub rest_like : List ℕ → List ℕ → Option (List ℕ)
rest_like line text = rest_from text 32 (Some line)

abbrev pub is_nothing : Option (List ℕ) → Bool
is_nothing None = false
is_nothing (Some rest) = length rest == 0

-- a word is one for which another stands
abbrev pub is_like : List ℕ → List ℕ → Bool
is_like word other = is_nothing (rest_like word other)

-- a text that stands for any reply of the book
abbrev pub ends_with_any_reply : List ℕ → Bool
ends_with_any_reply text = ends_with nat_eq text (codes "-> *")

abbrev pub is_end_of : List ℕ → Option (List ℕ) → Bool
is_end_of text None = false
is_end_of text (Some rest) = (length rest == 0) || ends_with_any_reply text

-- a line is one for which a text stands
abbrev pub is_line_like : List ℕ → List ℕ → Bool
is_line_like line text = is_end_of text (rest_like line text)
