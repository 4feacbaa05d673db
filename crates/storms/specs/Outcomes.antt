-- What comes of a storm. Ours, of no standard.
use Rattle.std.specs.Prelude.{◌≡◌, ℕ, true, List, ◌++◌, All, vec_len, codes, slice_get, Some, Ok, Err}
use Rattle.std.specs.Fmt.{decimal}
use Rattle.std.specs.FinMap as map
use Rattle.channel_fsm.specs.declared.ChanId.{ChanId}
use Rattle.cell_table.specs.Site.{SiteView}
use Rattle.cell_table.specs.SiteFile.{read_site}
use Rattle.radio_book.specs.declared.event.Event.{Event}
use Rattle.radio_book.specs.declared.event.Event.TheVariants.{Open}
use Rattle.radio_book.specs.declared.event.Reply.{Reply}
use Rattle.radio_book.specs.declared.facts.Milestone.TheVariants as milestone
use Rattle.radio_book.specs.State.{State, empty_book}
use Rattle.radio_book.specs.Run.{Leads}
use Rattle.radio_desk.specs.Desk.{DeskState}
use Rattle.radio_desk.specs.Audit.{IsAuditOf}
use Rattle.radio_desk.specs.Tally.{count_of}
use Rattle.call_worker.specs.declared.posted.WorkerEnd.{WorkerEnd}
use Rattle.storms.specs.declared.trip.Trip.{Trip}
use Rattle.storms.specs.declared.outcome.Figures.{Figures}
use Rattle.storms.specs.declared.outcome.Outcome.{Outcome}
use Rattle.storms.specs.declared.outcome.Outcome.TheVariants.{Done, NoSite, TooSmall, Office}
use Rattle.storms.specs.Width.{IsWide, IsShortage}
use Rattle.storms.specs.Trips.{trips_of}

-- the figures are those of a desk: what its history tells, how many channels its book has in use, and its audit
pub record AreOf (d : DeskState) (figures : Figures) : Type 0 where
  pub calls : figures.tally.calls ≡ count_of milestone.Opened d.history
  pub attempts : figures.tally.attempts ≡ count_of milestone.Began d.history
  pub completed : figures.tally.completed ≡ count_of milestone.Completed d.history
  pub undone : figures.tally.undone ≡ count_of milestone.Undone d.history
  pub channels : figures.channels ≡ map.len d.book.channels
  pub audit : IsAuditOf d figures.audit

-- the history says that this call was to be opened on this channel
abbrev pub IsAsked : List (Event × Reply) → ℕ → ChanId → Type 0
IsAsked history call chan = (place : ℕ) × (reply : Reply) × (slice_get history place ≡ Some (Open call chan, reply))

-- They are of a desk that opened with this book, whose history leads from there to its book, and which was asked to open the
-- call of each of these trips.
pub record AreFigures (opening : State) (trips : List Trip) (figures : Figures) : Type 0 where
  pub desk : DeskState
  pub opens : desk.opening ≡ opening
  pub legal : Leads desk.opening desk.history desk.book
  pub asked : All (λ trip. IsAsked desk.history trip.call trip.from) trips
  pub told : AreOf desk figures

-- a worker took all that it was given, handled each to its end, and lost no message
pub record DidAll {L A : Type 0} (refused : L → ℕ) (e : WorkerEnd L A) : Type 0 where
  pub lost : refused e.links ≡ 0
  pub took : vec_len e.taken ≡ vec_len e.given
  pub ok : All (λ t. t.ok ≡ true) e.taken.items

-- What may come of a storm of so many calls over the site of a text: the site is read, and is wide enough; or the first thing
-- of these that isn't so.
abbrev pub IsOutcome : List ℕ → ℕ → Outcome → Type 0
IsOutcome text calls (Done figures) = (site : SiteView) × (read_site text ≡ Ok site) × IsWide site calls × AreFigures (empty_book site) (trips_of site calls) figures
IsOutcome text calls (NoSite fault) = read_site text ≡ Err fault
IsOutcome text calls (TooSmall shortage) = (site : SiteView) × (read_site text ≡ Ok site) × IsShortage site calls shortage
IsOutcome text calls (Office fault) = (site : SiteView) × (read_site text ≡ Ok site) × IsWide site calls

-- what the counts of figures are printed as: five lines
abbrev pub figures_text : Figures → List ℕ
figures_text f =
    codes "calls " ++ (decimal f.tally.calls ++ (codes "\nattempts " ++ (decimal f.tally.attempts ++ (codes "\ncompleted " ++ (decimal f.tally.completed
    ++ (codes "\nundone " ++ (decimal f.tally.undone ++ (codes "\nchannels in use " ++ (decimal f.channels ++ codes "\n")))))))))
