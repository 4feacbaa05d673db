-- The head of a journal's file: its first record, by which it is known of which site the journal is, and with which book the file
-- begins. Ours, of no standard. A text is the list of its bytes.
use Rattle.std.specs.Prelude.{◌≡◌, ℕ, List, [], ◌∷◌, ◌++◌, codes, None}
use Rattle.std.specs.Fmt.{decimal}
use Rattle.radio_book.specs.declared.event.Event.{Event}
use Rattle.radio_book.specs.declared.event.Reply.{Reply}
use Rattle.radio_book.specs.State.{State, empty_book}
use Rattle.radio_book.specs.Table.{step, reply_to}
use Rattle.radio_book.specs.Run.{run_book, run_replies}
use Rattle.event_text.specs.Text.{event_text}
use Rattle.opening_events.specs.declared.listing.OpeningFault.{OpeningFault}
use Rattle.opening_events.specs.declared.listing.OpeningFault.TheVariants as opening
use Rattle.opening_events.specs.Opening.{opening_events}
use Rattle.trace_entries.specs.Replies.{reply_text}
use Rattle.trace_entries.specs.Entries.{first_unreadable, entries_of, events_of, HasReplies}
use Rattle.journal_resume.specs.declared.head.HeadFault.{HeadFault}
use Rattle.journal_resume.specs.declared.head.HeadFault.TheVariants as head

-- the first line of a head: the checksum of the site
abbrev pub site_line : ℕ → List ℕ
site_line sum = codes "site " ++ (decimal sum ++ 10 ∷ [])

-- a text begins with this line
abbrev pub BeginsWithLine : List ℕ → List ℕ → Type 0
BeginsWithLine line text = (behind : List ℕ) × (text ≡ line ++ behind)

-- the line of an event, with the book's reply to it
abbrev pub event_line : Event → Reply → List ℕ
event_line event reply = codes "event " ++ (event_text event ++ (codes " -> " ++ (reply_text reply ++ 10 ∷ [])))

-- the lines of events, each with the reply of a book that is asked them one after another
abbrev pub event_lines : State → List Event → List ℕ
event_lines b [] = []
event_lines b (event ∷ events) = event_line event (reply_to b event) ++ event_lines (step b event) events

-- the text of a head: the line of the site, and those of the events that are known to lead from its empty book to a book
abbrev pub head_text : ℕ → State → List ℕ
head_text sum b = site_line sum ++ event_lines (empty_book b.site) (opening_events b)

-- A trace leads from the empty book of a book's site to that book, and has the replies that are given on the way.
pub record LeadsTo (trace : List ℕ) (b : State) : Type 0 where
  pub readable : first_unreadable trace ≡ None
  pub book : run_book (empty_book b.site) (events_of (entries_of trace)) ≡ b
  pub replies : HasReplies trace (run_replies (empty_book b.site) (events_of (entries_of trace)))

-- why no head is made, where there is no list of events
abbrev pub head_fault_of : OpeningFault → HeadFault
head_fault_of opening.Differs = head.Differs
head_fault_of opening.NoMemory = head.NoMemory
