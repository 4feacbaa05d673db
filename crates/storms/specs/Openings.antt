-- Which calls an office was given to open, and what its desk tells once it has closed. Ours, of no standard.
use Rattle.std.specs.Prelude.{◌≡◌, ◌⊎◌, ℕ, List, [], ◌∷◌, All}
use Rattle.channel_fsm.specs.declared.ChanId.{ChanId}
use Rattle.radio_book.specs.Run.{Leads}
use Rattle.radio_desk.specs.Desk.{DeskState}
use Rattle.exchange.specs.declared.Inbound.{Inbound}
use Rattle.exchange.specs.declared.Inbound.TheVariants.{Operator}
use Rattle.exchange.specs.declared.Line.TheVariants as line
use Rattle.call_worker.specs.States.{WorkerState, OfficeState}
use Rattle.storms.specs.declared.trip.Trip.{Trip}
use Rattle.storms.specs.declared.outcome.Figures.{Figures}
use Rattle.storms.specs.Outcomes.{AreOf, IsAsked}

-- one of them is such
abbrev pub Has : {X : Type 0} → (X → Type 0) → List X → Type 0
Has P [] = ⊥
Has P (x ∷ xs) = P x ⊎ Has P xs

-- the operator's line that opens the call on the channel
abbrev pub IsOpening : {A : Type 0} → ℕ → ChanId → Inbound A → Type 0
IsOpening call chan input = input ≡ Operator (line.Open call chan)

-- it was given to a worker of the office
unfoldable pub IsGivenToOpen : {L A : Type 0} → OfficeState L A → ℕ → ChanId → Type 0
IsGivenToOpen office call chan = Has (λ worker. Has (IsOpening call chan) worker.given) office.workers

-- so were the lines of all these trips
abbrev pub AreGivenToOpen : {L A : Type 0} → OfficeState L A → List Trip → Type 0
AreGivenToOpen office trips = All (λ trip. IsGivenToOpen office trip.call trip.from) trips

-- what was given stays given
unfoldable pub Keeps : {L A : Type 0} → OfficeState L A → OfficeState L A → Type 0
Keeps old new = (call : ℕ) (chan : ChanId) → IsGivenToOpen old call chan → IsGivenToOpen new call chan

-- The figures are of the desk of an office that closed: it opened with the office's book, its history leads from there to its
-- book, and it was asked to open each call that the office was given to open.
pub record AreLeftBy {L A : Type 0} (office : OfficeState L A) (figures : Figures) : Type 0 where
  pub desk : DeskState
  pub opens : desk.opening ≡ office.opening
  pub legal : Leads desk.opening desk.history desk.book
  pub asked : (call : ℕ) (chan : ChanId) → IsGivenToOpen office call chan → IsAsked desk.history call chan
  pub told : AreOf desk figures
