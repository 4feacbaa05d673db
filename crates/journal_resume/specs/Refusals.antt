-- Why a file is refused as a journal's. Ours, of no standard.
use Rattle.std.specs.Prelude.{◌≡◌, ◌≢◌, ◌⊎◌, ◌+◌, ◌≤◌, ◌^◌, ℕ, List, ◌++◌, length, IsUtf8, IsSome, ⊤}
use Rattle.cell_table.specs.Site.{SiteView}
use Rattle.radio_book.specs.State.{State, empty_book}
use Rattle.radio_book.specs.Run.{run_book, run_replies}
use Rattle.journal_records.specs.declared.file.FileFault.TheVariants as file
use Rattle.journal_records.specs.Records.{BeginsWith}
use Rattle.journal_records.specs.Files.{kind, first_line, Begins}
use Rattle.trace_entries.specs.Entries.{first_unreadable, entries_of, events_of, HasReplies}
use Rattle.journal_resume.specs.declared.resuming.ResumeFault.{ResumeFault}
use Rattle.journal_resume.specs.declared.resuming.ResumeFault.TheVariants as fault
use Rattle.journal_resume.specs.Ends.{NoRecord, IsEnd}
use Rattle.journal_resume.specs.Heads.{site_line, BeginsWithLine}
use Rattle.journal_resume.specs.Resume.{Numbered, AreTaken, records_text, events_in}

-- octets begin with a record of another number
abbrev pub BeginsWithAnother : ℕ → List ℕ → Type 0
BeginsWithAnother next octets = (number : ℕ) × (body : List ℕ) × (behind : List ℕ) × BeginsWith octets number body behind × (number ≢ next)

-- a body is no text, or has a line that says no event though it begins as one
abbrev pub IsUnreadable : List ℕ → Type 0
IsUnreadable body = (IsUtf8 body → ⊥) ⊎ IsSome (first_unreadable body)

-- a body has another reply than the book gives to its events
abbrev pub IsAnsweredOtherwise : State → List ℕ → Type 0
IsAnsweredOtherwise b body = HasReplies body (run_replies b (events_of (entries_of body))) → ⊥

-- Why a record isn't taken by a book that should have the number `next`: what it has, and its body.
abbrev pub IsRecordReason : ResumeFault → State → ℕ → ℕ → List ℕ → Type 0
IsRecordReason (fault.Misplaced n) b next number body = (n ≡ next) × (number ≢ next)
IsRecordReason (fault.Unreadable n) b next number body = (n ≡ next) × (number ≡ next) × IsUnreadable body
IsRecordReason (fault.OtherReply n) b next number body = (n ≡ next) × (number ≡ next) × (IsUnreadable body → ⊥) × IsAnsweredOtherwise b body
IsRecordReason fault.NoMemory b next number body = ⊤
IsRecordReason (fault.File _) b next number body = ⊥
IsRecordReason fault.NoHead b next number body = ⊥
IsRecordReason fault.Renamed b next number body = ⊥
IsRecordReason fault.AnotherSite b next number body = ⊥
IsRecordReason (fault.Damaged _) b next number body = ⊥

-- the octets begin with a record of this number, of which this holds
abbrev pub BeginsWithBody : ℕ → List ℕ → (List ℕ → Type 0) → Type 0
BeginsWithBody next left P = (body : List ℕ) × (behind : List ℕ) × BeginsWith left next body behind × P body

-- Why the record that should come next, with this number, isn't taken by a book: it is none, and the octets don't end there; it
-- has another number, or there is no number for it behind the highest, which is said then; it can't be read; or it has another
-- reply.
abbrev pub IsNextReason : ResumeFault → State → ℕ → List ℕ → Type 0
IsNextReason (fault.Damaged n) b next left = (n ≡ next) × NoRecord left × (IsEnd left → ⊥)
IsNextReason (fault.Misplaced n) b next left = ((n ≡ next) × BeginsWithAnother next left) ⊎ ((n + 1 ≡ 2 ^ 64) × (2 ^ 64 ≤ next + 1))
IsNextReason (fault.Unreadable n) b next left = (n ≡ next) × BeginsWithBody next left IsUnreadable
IsNextReason (fault.OtherReply n) b next left = (n ≡ next) × BeginsWithBody next left (λ body. (IsUnreadable body → ⊥) × IsAnsweredOtherwise b body)
IsNextReason fault.NoMemory b next left = ⊤
IsNextReason (fault.File _) b next left = ⊥
IsNextReason fault.NoHead b next left = ⊥
IsNextReason fault.Renamed b next left = ⊥
IsNextReason fault.AnotherSite b next left = ⊥

-- A book takes the records in front, the first of which has this number; for the record that comes next there is a reason at the
-- book to which their events lead. So the fault is of the first record that can't be taken.
abbrev pub IsReasonBehind : ResumeFault → State → ℕ → List ℕ → Type 0
IsReasonBehind fault b first octets =
    (records : List Numbered) × (left : List ℕ) × (octets ≡ records_text records ++ left) × AreTaken b first records
    × IsNextReason fault (run_book b (events_in records)) (first + length records) left

-- what stands behind the first line begins with no record, or with one of another number
abbrev pub IsHeadReason : ResumeFault → ℕ → List ℕ → Type 0
IsHeadReason fault.NoHead number octets = NoRecord octets
IsHeadReason fault.Renamed number octets = BeginsWithAnother number octets
IsHeadReason (fault.File _) number octets = ⊥
IsHeadReason fault.AnotherSite number octets = ⊥
IsHeadReason (fault.Damaged _) number octets = ⊥
IsHeadReason (fault.Misplaced _) number octets = ⊥
IsHeadReason (fault.Unreadable _) number octets = ⊥
IsHeadReason (fault.OtherReply _) number octets = ⊥
IsHeadReason fault.NoMemory number octets = ⊥

-- there is a reason behind the first line
abbrev pub BehindFirstLine : List ℕ → (List ℕ → Type 0) → Type 0
BehindFirstLine octets P = (behind : List ℕ) × (octets ≡ first_line ++ behind) × P behind

-- Why a journal of a site is refused whose file has this number in its name.
abbrev pub IsReason : ResumeFault → ℕ → SiteView → ℕ → List ℕ → Type 0
IsReason (fault.File file.NotAJournal) sum site number octets = Begins kind octets → ⊥
IsReason (fault.File file.UnknownVersion) sum site number octets = Begins kind octets × (Begins first_line octets → ⊥)
IsReason fault.NoHead sum site number octets = BehindFirstLine octets (IsHeadReason fault.NoHead number)
IsReason fault.Renamed sum site number octets = BehindFirstLine octets (IsHeadReason fault.Renamed number)
IsReason fault.AnotherSite sum site number octets = BehindFirstLine octets (λ text. (head : List ℕ) × (behind : List ℕ) × BeginsWith text number head behind × (BeginsWithLine (site_line sum) head → ⊥))
IsReason (fault.Damaged n) sum site number octets = BehindFirstLine octets (IsReasonBehind (fault.Damaged n) (empty_book site) number)
IsReason (fault.Misplaced n) sum site number octets = BehindFirstLine octets (IsReasonBehind (fault.Misplaced n) (empty_book site) number)
IsReason (fault.Unreadable n) sum site number octets = BehindFirstLine octets (IsReasonBehind (fault.Unreadable n) (empty_book site) number)
IsReason (fault.OtherReply n) sum site number octets = BehindFirstLine octets (IsReasonBehind (fault.OtherReply n) (empty_book site) number)
IsReason fault.NoMemory sum site number octets = ⊤
