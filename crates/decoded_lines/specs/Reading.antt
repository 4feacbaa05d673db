-- Which lines a reader gives. What a reader has left is the list of its bytes, where that is known. Ours, of no standard.
use Rattle.std.specs.Prelude.{◌≡◌, ◌≢◌, ℕ, ◌<◌, ◌≤◌, ◌==◌, Bool, true, false, nat_lt, if◌then◌else◌, List, [], ◌++◌, length, take, Option, Some, IfSome}
use Rattle.std.specs.List.{list_any, before_first, after_first}
use Rattle.std.specs.Io.KnownBytes.{Keeps, Consumes, IsAtEnd}
use Rattle.decoded_lines.specs.declared.reader.Found.{Found}
use Rattle.decoded_lines.specs.declared.reader.Found.TheVariants as found
use Rattle.decoded_lines.specs.declared.reader.Part.{Part}
use Rattle.decoded_lines.specs.declared.reader.Part.TheVariants as part

-- a line feed
abbrev pub is_feed : ℕ → Bool
is_feed b = b == 10

-- the most octets of a line
abbrev pub longest_line : ℕ
longest_line = 65536

-- and how many of a line are kept
abbrev pub most_kept : ℕ
most_kept = 65537

-- what is kept of a line, once there is more of it
abbrev pub kept : List ℕ → List ℕ → List ℕ
kept line more = take most_kept (line ++ more)

-- the first line of what a reader has left: all before its first line feed
abbrev pub first_line : List ℕ → List ℕ
first_line octets = before_first is_feed octets

-- what a reader has left behind the first line
abbrev pub behind_line : List ℕ → List ℕ
behind_line octets = after_first is_feed octets

-- a line of so many octets, as far as they are kept
abbrev pub found_of : ℕ → Found
found_of count = if nat_lt longest_line count then found.TooLong else found.Line

-- what was passed over of a line
abbrev pub Passes : Part → Option (List ℕ) → Option (List ℕ) → List ℕ → List ℕ → Type 0
Passes part.Again old new before after = Keeps old new × (after ≡ before)
Passes part.End old new before after = IsAtEnd old × Keeps old new × (after ≡ before)
Passes part.Open old new before after =
    (passed : List ℕ) × (list_any is_feed passed ≡ false) × (length passed ≢ 0) × Consumes old new passed × (after ≡ kept before passed)
Passes part.Whole old new before after =
    IfSome old (λ octets. (list_any is_feed octets ≡ true) × (after ≡ kept before (first_line octets)) × (new ≡ Some (behind_line octets)))

-- What a reader gave: nothing, where it had nothing left; else its first line, which it has no more, or the front of that
-- where the line is too long.
abbrev pub Gives : Found → Option (List ℕ) → Option (List ℕ) → List ℕ → Type 0
Gives found.End old new line = IsAtEnd old
Gives found.Line old new line =
    IfSome old (λ octets. (octets ≢ []) × (length (first_line octets) ≤ longest_line) × (line ≡ first_line octets) × (new ≡ Some (behind_line octets)))
Gives found.TooLong old new line =
    IfSome old (λ octets. (longest_line < length (first_line octets)) × (line ≡ take most_kept (first_line octets)) × (new ≡ Some (behind_line octets)))
