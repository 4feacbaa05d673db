-- All records with which some octets begin, and what is told of them. Ours, of no standard. A text is the list of its bytes.
use Rattle.std.specs.Prelude.{◌≡◌, ◌≢◌, ◌⊎◌, ◌+◌, ℕ, List, [], ◌∷◌, ◌++◌, length, codes, Bool, nat_eq, nat_lt, ◌==◌, if◌then◌else◌, Option, None, Some}
use Rattle.std.specs.List.{flat_map, slice_split, starts_with}
use Rattle.std.specs.Str.{is_utf8}
use Rattle.std.specs.Fmt.{decimal}
use Rattle.journal_records.specs.declared.file.FileFault.TheVariants as file
use Rattle.journal_records.specs.Records.{BeginsWith}
use Rattle.journal_records.specs.Files.{kind, first_line, Begins}
use Rattle.journal_resume.specs.declared.wholes.WholeFault.{WholeFault}
use Rattle.journal_resume.specs.declared.wholes.WholeFault.TheVariants as fault
use Rattle.journal_resume.specs.Ends.{NoRecord, IsEnd}
use Rattle.journal_resume.specs.Resume.{Numbered, AreNumbered}

-- octets begin with these records, one behind another, and this stands behind them
abbrev pub AreInFront : List Numbered → List ℕ → List ℕ → Type 0
AreInFront [] octets behind = octets ≡ behind
AreInFront (r ∷ records) octets behind = (next : List ℕ) × BeginsWith octets r.0 r.1 next × AreInFront records next behind

-- these are all records with which octets begin, and this is left behind them
abbrev pub AreAll : List Numbered → List ℕ → List ℕ → Type 0
AreAll records octets left = AreInFront records octets left × NoRecord left

-- A journal's file without a record at its end that was cut: its first line, and all its records, of which each has its
-- checksums.
pub record IsWhole (octets whole : List ℕ) : Type 0 where
  pub records : List Numbered
  pub behind : List ℕ
  pub left : List ℕ
  pub line : octets ≡ first_line ++ behind
  pub all : AreAll records behind left
  pub end : IsEnd left
  pub whole_is : octets ≡ whole ++ left

-- Why a file isn't read as a journal to its end: its first line is another; or it doesn't end behind its records, where this
-- place is.
abbrev pub IsWholeReason : WholeFault → List ℕ → Type 0
IsWholeReason (fault.File file.NotAJournal) octets = Begins kind octets → ⊥
IsWholeReason (fault.File file.UnknownVersion) octets = Begins kind octets × (Begins first_line octets → ⊥)
IsWholeReason (fault.Damaged place) octets =
    (records : List Numbered) × (behind : List ℕ) × (left : List ℕ) × (octets ≡ first_line ++ behind) × AreAll records behind left
    × (place + length left ≡ length octets) × (IsEnd left → ⊥)

-- This is the trace that a file has: of a journal's all but what was cut, of another all.
abbrev pub IsTraceOf : List ℕ → List ℕ → Type 0
IsTraceOf octets trace = IsWhole octets trace ⊎ ((Begins kind octets → ⊥) × (trace ≡ octets))

-- The number of the last of some records, where the first has this number and each other one that behind the one before.
abbrev pub IsLast : ℕ → List Numbered → Option ℕ → Type 0
IsLast first records None = (records ≡ []) ⊎ (AreNumbered first records → ⊥)
IsLast first records (Some last) = (records ≢ []) × AreNumbered first records × (last + 1 ≡ first + length records)

-- a record has this number, behind the last of some records, or where it is the first one the number that comes first
abbrev pub IsNext : ℕ → Option ℕ → ℕ → Type 0
IsNext first None number = number ≡ first
IsNext first (Some last) number = number ≡ last + 1

-- a line of a trace says what was sent
abbrev pub is_sent : List ℕ → Bool
is_sent line = starts_with nat_eq line (codes "out ")

-- a line that says what was sent is told behind a number
abbrev pub told_at : ℕ → List ℕ → List ℕ
told_at number line = if is_sent line then decimal number ++ (codes ": " ++ (line ++ 10 ∷ [])) else []

-- so is each such line of a trace, in their order
abbrev pub told_lines : ℕ → List ℕ → List ℕ
told_lines number trace = flat_map (told_at number) (slice_split (λ b. b == 10) trace)

-- what is told once more of a record: nothing, where its body is no text
abbrev pub told_of : ℕ → List ℕ → List ℕ
told_of number body = if is_utf8 body then told_lines number body else []

-- of one that stands behind the line that was heard
abbrev pub told_unheard : ℕ → ℕ → List ℕ → List ℕ
told_unheard heard number body = if nat_lt heard number then told_of number body else []

-- and of all records, each once, in their order
abbrev pub told_behind : ℕ → List Numbered → List ℕ
told_behind heard records = flat_map (λ (r : Numbered). told_unheard heard r.0 r.1) records
