-- The mark of a controller that may begin a line. A text is the list of its bytes. Ours, of no standard.
use Rattle.std.specs.Prelude.{ℕ, ◌||◌, nat_eq, if◌then◌else◌, List, drop, codes}
use Rattle.std.specs.List.{starts_with}

-- a line without it
abbrev pub without_mark : List ℕ → List ℕ
without_mark line = if starts_with nat_eq line (codes "1: ") || starts_with nat_eq line (codes "2: ") then drop 3 line else line
