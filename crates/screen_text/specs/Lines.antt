-- Which lines of a text count, and how many. A text is the list of its bytes. The results of a test are those of TAP; the
-- rest is ours, of no standard.
use Rattle.std.specs.Prelude.{◌≡◌, ℕ, ◌+◌, ◌-◌, ◌^◌, ◌==◌, ◌||◌, Bool, true, nat_eq, if◌then◌else◌, List, [], ◌∷◌, ◌++◌, take, min, count_by, codes}
use Rattle.std.specs.List.{starts_with, slice_split}
use Rattle.screen_text.specs.declared.tally.Counted.{Counted}
use Rattle.screen_text.specs.declared.tally.Counted.TheVariants.{Lines, Scripts}

-- a line counts that begins so: any, or one that says a result
abbrev pub is_counted : Counted → List ℕ → Bool
is_counted Lines begun = true
is_counted Scripts begun = starts_with nat_eq begun (codes "ok ") || starts_with nat_eq begun (codes "not ok ")

-- how far the counting is: how many lines counted, and how the line begins that hasn't ended, by its first seven octets
pub record Stand : Type 0 where
  pub number : ℕ
  pub begun : List ℕ

abbrev pub at_begin : Stand
at_begin = record { number = 0; begun = [] }

-- one more, up to the highest number of 64 bits, which stays
abbrev pub one_more : ℕ → ℕ
one_more n = min (n + 1) (2 ^ 64 - 1)

-- a line has ended
abbrev pub with_line : Counted → Stand → Stand
with_line counted s = record { number = if is_counted counted s.begun then one_more s.number else s.number; begun = [] }

-- an octet more: a line feed ends a line, any other goes on with it
abbrev pub with_octet : Counted → Stand → ℕ → Stand
with_octet counted s b = if b == 10 then with_line counted s else record { number = s.number; begun = take 7 (s.begun ++ b ∷ []) }

-- a text more
abbrev pub with_text : Counted → Stand → List ℕ → Stand
with_text counted s [] = s
with_text counted s (b ∷ text) = with_text counted (with_octet counted s b) text

-- all but the last
abbrev pub without_last : {X : Type 0} → List X → List X
without_last [] = []
without_last (x ∷ []) = []
without_last (x ∷ y ∷ more) = x ∷ without_last (y ∷ more)

-- the lines that a text ends, each without its line feed
abbrev pub ended_lines : List ℕ → List (List ℕ)
ended_lines text = without_last (slice_split (λ b. b == 10) text)

-- what the octets of a text count, one by one and from the begin on, are the lines that it ends and that count
abbrev pub CountsLines : Type 0
CountsLines = (counted : Counted) (text : List ℕ) →
    (with_text counted at_begin text).number ≡ min (count_by (is_counted counted) (ended_lines text)) (2 ^ 64 - 1)
