-- The names of messages that came. Ours, of no standard.
use Rattle.std.specs.Prelude.{ℕ, Bool, List, Option, String, position, string_bytes}
use Rattle.std.specs.Str.{bytes_eq}

-- a text is this name
abbrev pub is_name : List ℕ → List ℕ → Bool
is_name name text = bytes_eq text name

-- the first place at which texts have a name
abbrev pub place_in : {A : Type 0} → List (String A) → List ℕ → Option ℕ
place_in texts name = position (λ text. is_name name (string_bytes text)) texts
