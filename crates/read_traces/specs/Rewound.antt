-- An undone attempt, taken out of a trace.
use Rattle.std.specs.Prelude.{◌≡◌, ◌+◌, ◌⊎◌, ℕ, List, map, slice_get, Some, None}
use Rattle.std.specs.Option.{option_map}
use Rattle.cell_table.specs.SiteFile.{described_site}
use Rattle.cell_table.specs.Site.{SiteView}
use Rattle.radio_book.specs.declared.event.Event.{Event}
use Rattle.radio_book.specs.declared.event.Reply.{Reply}
use Rattle.radio_book.specs.declared.rewind.Rewound.{Rewound}
use Rattle.radio_book.specs.State.{State, empty_book}
use Rattle.radio_book.specs.Undone.{Undone, IsUndoneAt, OpensUndone}
use Rattle.radio_book.specs.NoTrace.{LeavesNoTrace}
use Rattle.trace_entries.specs.declared.entries.Entry.{Entry}
use Rattle.radio_book.specs.Run.{run_replies}
use Rattle.trace_entries.specs.Entries.{first_unreadable, entries_of, events_of, HasReplies}
use Rattle.trace_entries.specs.Entries as said

-- at this place of the entries stands the one of this line, counted from 1
abbrev pub StandsIn : List Entry → ℕ → ℕ → Type 0
StandsIn entries line at = option_map (λ (e : Entry). e.index + 1) (slice_get entries at) ≡ Some line

-- what holds of the undone attempt that opens at a place of a list of events
abbrev pub OfTheUndone : (State → List Event → Undone → Type 0) → State → List Event → ℕ → Type 0
OfTheUndone P b es at = (u : Undone) × IsUndoneAt b es at u × P b es u

-- what all events do and what the others alone do isn't the same: the books differ, or a reply to one of the others does
abbrev pub LeavesATrace : State → List Event → Undone → Type 0
LeavesATrace b es u = LeavesNoTrace b es u → ⊥

-- of a list of entries, and a line, the undone attempt that opens there
abbrev pub InEntries : (State → List Event → Undone → Type 0) → State → List Entry → ℕ → Type 0
InEntries P b entries line = (at : ℕ) × StandsIn entries line at × OfTheUndone P b (said.events_of entries) at

-- no undone attempt opens in this line: no entry stands in it, or at the place of one that does opens none
abbrev pub NoneOpens : State → List Entry → ℕ → Type 0
NoneOpens b entries line =
    ((at : ℕ) → StandsIn entries line at → ⊥)
    ⊎ ((at : ℕ) × StandsIn entries line at × (OpensUndone b (said.events_of entries) at → ⊥))

-- at the place of each of the others stands the reply that it gets alone
abbrev pub AreSameReplies : List Reply → List ℕ → List Reply → Type 0
AreSameReplies whole others without = map (slice_get whole) others ≡ map Some without

-- with the attempt and without it the book is the same, and so are the replies to the others
abbrev pub IsSame : {A : Type 0} → Rewound A → Type 0
IsSame r = (r.whole ≡ r.without) × AreSameReplies r.whole_replies.items r.others.items r.without_replies.items

-- the texts describe this site and say events, with the replies of its empty book, asked one after another
pub record IsTold (site trace : List ℕ) (s : SiteView) : Type 0 where
  pub described : described_site site ≡ Some s
  pub readable : first_unreadable trace ≡ None
  pub replies : HasReplies trace (run_replies (empty_book s) (events_of (entries_of trace)))

-- no site is described, a line can't be read, or a reply isn't that of the site's empty book
abbrev pub CantBeTold : List ℕ → List ℕ → Type 0
CantBeTold site trace = (s : SiteView) → IsTold site trace s → ⊥

-- where it can be told, no undone attempt opens in this line
abbrev pub CantBeTakenOut : List ℕ → List ℕ → ℕ → Type 0
CantBeTakenOut site trace line = (s : SiteView) → IsTold site trace s → NoneOpens (empty_book s) (entries_of trace) line

-- the texts describe a site and say events with the replies of its empty book, asked one after another; and this holds of the
-- undone attempt that opens in this line, from that book on
pub record InTrace (P : State → List Event → Undone → Type 0) (site trace : List ℕ) (line : ℕ) : Type 0 where
  pub site_view : SiteView
  pub described : described_site site ≡ Some site_view
  pub readable : first_unreadable trace ≡ None
  pub replies : HasReplies trace (run_replies (empty_book site_view) (events_of (entries_of trace)))
  pub holds : InEntries P (empty_book site_view) (entries_of trace) line
