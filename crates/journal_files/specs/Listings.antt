-- Which files of a journal a folder has, by the names that it gives. Ours, of no standard. A text is the list of its octets.
use Rattle.std.specs.Prelude.{◌==◌, ◌&&◌, ◌+◌, ◌*◌, ◌-◌, ◌^◌, ℕ, nat_lt, bytes_eq, codes, if◌then◌else◌, List, [], ◌∷◌, take, drop, Option, Some, None, IfSome, IsPermutation, IsSorted}
use Rattle.std.specs.Ordering.{nat_cmp}
use Rattle.std.specs.Char.{is_ascii_digit}
use Rattle.std.specs.List.{slice_split, filter_map}

-- a number with one decimal digit more; nothing where an octet is no digit, or the number is too large
abbrev pub with_digit : ℕ → ℕ → Option ℕ
with_digit n c = if is_ascii_digit c && nat_lt (n * 10 + (c - 48)) (2 ^ 64) then Some (n * 10 + (c - 48)) else None

-- the number that the digits write behind those of another
abbrev pub decimal_from : Option ℕ → List ℕ → Option ℕ
decimal_from None cs = None
decimal_from (Some n) [] = Some n
decimal_from (Some n) (c ∷ cs) = decimal_from (with_digit n c) cs

-- behind which line the file of this name begins: 20 digits, and `.journal`; nothing of another name
abbrev pub number_of : List ℕ → Option ℕ
number_of name = if bytes_eq (drop 20 name) (codes ".journal") then decimal_from (Some 0) (take 20 name) else None

-- the numbers in some names, of which a NUL ends each
abbrev pub numbers_in : List ℕ → List ℕ
numbers_in names = filter_map number_of (slice_split (λ b. b == 0) names)

-- These are the numbers in the names, each as often, and they rise.
pub record AreSpans (names spans : List ℕ) : Type 0 where
  pub all : IsPermutation (numbers_in names) spans
  pub rise : IsSorted nat_cmp spans

-- these are the numbers in the names that a folder gave since it was opened
abbrev pub IsListed : {D : Type 0} → (D → Option (List ℕ)) → List ℕ → Type 0
IsListed {D} remaining spans = (opened : D) × IfSome (remaining opened) (λ names. AreSpans names spans)
