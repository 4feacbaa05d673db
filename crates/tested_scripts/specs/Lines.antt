-- What the lines of a script are to a test of it. A text is the list of its bytes. Ours, of no standard.
use Rattle.std.specs.Prelude.{ℕ, ◌&&◌, ◌||◌, is_some, Bool, nat_eq, not, if◌then◌else◌, List, map, drop, codes, Option, Some, None, bytes_eq}
use Rattle.std.specs.Borrow.{Bor}
use Rattle.std.specs.List.{starts_with}
use Rattle.lab_script.specs.Script.{is_comment, is_blank}
use Rattle.expectations.specs.Comments.{behind}
use Rattle.expectations.specs.Marks.{without_mark}

-- texts that are lent
abbrev pub texts_of : List (Bor (List ℕ)) → List (List ℕ)
texts_of lines = map (λ line. line.now) lines

-- a line that gives something
abbrev pub is_script_line : List ℕ → Bool
is_script_line line = not (is_comment line) && not (is_blank line)

-- a comment that expects something
abbrev pub is_expectation : List ℕ → Bool
is_expectation line = starts_with nat_eq line (codes "#>")

abbrev pub without_blank : List ℕ → List ℕ
without_blank text = if starts_with nat_eq text (codes " ") then drop 1 text else text

-- what it expects: what stands behind its mark, without one blank
abbrev pub expected_in : List ℕ → Option (List ℕ)
expected_in line = if is_expectation line then Some (without_blank (drop 2 line)) else None

-- what stands for any lines
abbrev pub is_any : List ℕ → Bool
is_any expected = bytes_eq expected (codes "..")

-- a line that says something of what comes: that a line does, that none does, or what the books hold
abbrev pub says_something : List ℕ → Bool
says_something line = is_expectation line || (is_some (behind (codes "#! ") line) || is_some (behind (codes "#= ") line))

-- a line of a trace that is that of an input
abbrev pub is_input : List ℕ → Bool
is_input line = starts_with nat_eq (without_mark line) (codes "in ")
