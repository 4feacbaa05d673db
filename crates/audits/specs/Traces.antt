-- All settled attempts, taken out of a trace.
use Rattle.std.specs.Prelude.{◌≡◌, ℕ, List, Some, None}
use Rattle.cell_table.specs.SiteFile.{described_site}
use Rattle.cell_table.specs.Site.{SiteView}
use Rattle.radio_book.specs.declared.undone.StepAt.{StepAt}
use Rattle.radio_book.specs.State.{State, empty_book}
use Rattle.radio_book.specs.Run.{run_replies}
use Rattle.trace_entries.specs.Entries.{first_unreadable, entries_of, events_of, HasReplies}
use Rattle.audits.specs.Histories.{OfTheHistory}

-- the texts describe a site and say events with the replies of its empty book, asked one after another; and this holds of what
-- remains of them, from that book on, without all settled attempts
pub record InWholeTrace (P : State → List StepAt → State → Type 0) (site trace : List ℕ) : Type 0 where
  pub site_view : SiteView
  pub described : described_site site ≡ Some site_view
  pub readable : first_unreadable trace ≡ None
  pub replies : HasReplies trace (run_replies (empty_book site_view) (events_of (entries_of trace)))
  pub holds : OfTheHistory P (empty_book site_view) (events_of (entries_of trace))
