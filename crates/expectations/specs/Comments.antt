-- What comments of a script say, by their first characters. A text is the list of its bytes. Ours, of no standard.
use Rattle.std.specs.Prelude.{ℕ, ◌==◌, ◌&&◌, ◌||◌, Bool, true, false, not, nat_eq, is_some, if◌then◌else◌, List, [], ◌∷◌, length, drop, codes, Option, Some, None}
use Rattle.std.specs.List.{starts_with}

-- what stands behind a mark, where a line begins with that
abbrev pub behind : List ℕ → List ℕ → Option (List ℕ)
behind mark line = if starts_with nat_eq line mark then Some (drop (length mark) line) else None

-- a comment that says something to a test
abbrev pub is_mark : List ℕ → Bool
is_mark line = starts_with nat_eq line (codes "#>") || (is_some (behind (codes "#! ") line) || (is_some (behind (codes "#= ") line) || (is_some (behind (codes "#% site ") line) || (is_some (behind (codes "#% peer ") line) || is_some (behind (codes "#% cells ") line)))))

-- a number sign, a blank or a tab
abbrev pub is_sign : ℕ → Bool
is_sign b = b == 35 || (b == 32 || b == 9)

-- what stands behind those that begin a text
abbrev pub behind_signs : List ℕ → List ℕ
behind_signs [] = []
behind_signs (b ∷ bs) = if is_sign b then behind_signs bs else b ∷ bs

abbrev pub begins_as_site : List ℕ → Bool
begins_as_site text = starts_with nat_eq text (codes "site") || (starts_with nat_eq text (codes "peer") || starts_with nat_eq text (codes "cells"))

-- by the first character; behind an equal sign by the whole text: five of them begin a ruler
abbrev pub begins_by : ℕ → List ℕ → List ℕ → Bool
begins_by b text rest = b == 62 || (b == 33 || ((b == 61 && not (starts_with nat_eq text (codes "====="))) || (b == 37 && begins_as_site (behind_signs rest))))

abbrev pub begins_as_mark : List ℕ → Bool
begins_as_mark [] = false
begins_as_mark (b ∷ bs) = begins_by b (b ∷ bs) bs

-- A comment looks like one that says something to a test, and isn't one.
abbrev pub is_slipped : List ℕ → Bool
is_slipped line = starts_with nat_eq line (codes "#") && (begins_as_mark (behind_signs line) && not (is_mark line))
