-- What a journal's file says, and the book to which it leads. Ours, of no standard. A text is the list of its bytes.
use Rattle.std.specs.Prelude.{◌≡◌, ◌+◌, ℕ, List, [], ◌∷◌, ◌++◌, length, map, All, IsUtf8, None, ⊤}
use Rattle.std.specs.List.{flat_map}
use Rattle.cell_table.specs.Site.{SiteView}
use Rattle.radio_book.specs.declared.event.Event.{Event}
use Rattle.radio_book.specs.State.{State, empty_book}
use Rattle.radio_book.specs.Run.{run_book, run_replies}
use Rattle.journal_records.specs.Records.{record_text}
use Rattle.journal_records.specs.Files.{first_line}
use Rattle.trace_entries.specs.Replies.{reply_text}
use Rattle.trace_entries.specs.Entries.{first_unreadable, entries_of, events_of, replies_in}
use Rattle.journal_resume.specs.Ends.{IsLeft}
use Rattle.journal_resume.specs.Heads.{site_line, BeginsWithLine}

-- a record: its number, and its body, which is a trace
abbrev pub Numbered : Type 0
Numbered = ℕ × List ℕ

abbrev pub records_text : List Numbered → List ℕ
records_text records = flat_map (λ (r : Numbered). record_text r.0 r.1) records

-- the events of all records, in their order
abbrev pub events_in : List Numbered → List Event
events_in records = flat_map (λ (r : Numbered). events_of (entries_of r.1)) records

-- the texts of the replies of all records, in their order
abbrev pub reply_texts : List Numbered → List (List ℕ)
reply_texts records = flat_map (λ (r : Numbered). replies_in r.1) records

-- the records have the book's replies to their events, asked one after another
abbrev pub AreAnswered : State → List Numbered → Type 0
AreAnswered b records = reply_texts records ≡ map reply_text (run_replies b (events_in records))

-- each record has the number behind that of the one before, the first of them this one
abbrev pub AreNumbered : ℕ → List Numbered → Type 0
AreNumbered first [] = ⊤
AreNumbered first (r ∷ records) = (r.0 ≡ first) × AreNumbered (first + 1) records

-- a body is a text, and each of its lines that begins as an event says one
abbrev pub IsReadable : List ℕ → Type 0
IsReadable body = IsUtf8 body × (first_unreadable body ≡ None)

-- A book takes records, the first of which should have this number: each has its number, can be read, and has the replies that
-- the book gives behind the records before.
pub record AreTaken (b : State) (first : ℕ) (records : List Numbered) : Type 0 where
  pub numbered : AreNumbered first records
  pub readable : All (λ (r : Numbered). IsReadable r.1) records
  pub answered : AreAnswered b records

-- Records behind the one of a number stand at the front of some octets, all that stand there; a book takes them, and this is the
-- book of their events, asked one after another.
pub record IsResumed (b : State) (before : ℕ) (octets : List ℕ) (b' : State) (last : ℕ) (left : List ℕ) : Type 0 where
  pub records : List Numbered
  pub text : octets ≡ records_text records ++ left
  pub taken : AreTaken b (before + 1) records
  pub book : b' ≡ run_book b (events_in records)
  pub last_number : last ≡ before + length records
  pub end : IsLeft left

-- A journal's file of a site: its first line, then a head with this number, and then records, each taken by the book. This is its
-- book: that of the events of the head and of all records, asked of the empty book of the site one after another; its replies are
-- those that the file has. What is left is nothing, or was cut.
pub record IsJournal (sum : ℕ) (site : SiteView) (number : ℕ) (octets : List ℕ) (b : State) (last : ℕ) (left : List ℕ) : Type 0 where
  pub head : List ℕ
  pub records : List Numbered
  pub text : octets ≡ first_line ++ (records_text ((number, head) ∷ records) ++ left)
  pub of_site : BeginsWithLine (site_line sum) head
  pub taken : AreTaken (empty_book site) number ((number, head) ∷ records)
  pub book : b ≡ run_book (empty_book site) (events_in ((number, head) ∷ records))
  pub last_number : last ≡ number + length records
  pub end : IsLeft left
