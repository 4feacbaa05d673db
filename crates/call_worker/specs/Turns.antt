-- The turns of one worker: what came of each input that it took. Ours, of no standard.
use Rattle.std.specs.Prelude.{◌≡◌, ◌⊎◌, ℕ, ◌+◌, List, [], ◌∷◌, ◌++◌, length, map, Bool, true, false}
use Rattle.cell_table.specs.Site.{SiteView}
use Rattle.rr_elements.specs.MeasResults.{Results}
use Rattle.exchange.specs.declared.Inbound.{Inbound}
use Rattle.exchange.specs.declared.Link.{Link}
use Rattle.exchange.specs.declared.Bad.{Bad}
use Rattle.ho_procedure.specs.Claims.{Entry}
use Rattle.ho_procedure.specs.Sent.{Sent}
use Rattle.ho_procedure.specs.Plan.{Plan, Ends, Step, Until, At, AtMemory, LeadsUntil, entries_of, messages_of, reports_after}
use Rattle.ho_procedure.specs.Handling.{IsRow, IsUndecoded, KeepsOctets}
use Rattle.call_worker.specs.declared.letter.Letter.{Letter}
use Rattle.call_worker.specs.declared.letter.Letter.TheVariants.{Input, Last}
use Rattle.call_worker.specs.declared.worker.Turn.{Turn}
use Rattle.call_worker.specs.Sending.{Delivered}

-- the last reports of each call
abbrev pub Reports : Type 0
Reports = ℕ → List Results

-- a worker has none at its start
abbrev pub no_reports : Reports
no_reports call = []

-- those after steps
abbrev pub reports_left : List Step → Reports → Reports
reports_left steps reports call = reports_after call steps (reports call)

-- How far the row of an input was followed: to its end where the worker says `ok`, else up to a step for which memory may be
-- refused, as for each that asks the desk.
abbrev pub end_of : Bool → Until
end_of true = At Ends
end_of false = AtMemory

-- the row of the input was followed so far
pub record IsFollowed {A : Type 0} (site : SiteView) (reports : Reports) (input : Inbound A) (ok : Bool) (steps : List Step) : Type 0 where
  pub plan : Plan
  pub row : IsRow site reports input plan
  pub leads : LeadsUntil plan steps (end_of ok)

-- Nothing was asked or sent: the octets of the input can't be read, or memory was refused for those that its message keeps.
pub record IsPassedOver {A : Type 0} (input : Inbound A) (ok : Bool) (steps : List Step) : Type 0 where
  pub ended : ok ≡ false
  pub nothing : steps ≡ []
  pub why : ((link : Link) × (bad : Bad) × IsUndecoded input link bad) ⊎ KeepsOctets input

-- what may come of an input
abbrev pub IsTurn : {A : Type 0} → SiteView → Reports → Inbound A → Bool → List Step → Type 0
IsTurn site reports input ok steps = IsFollowed site reports input ok steps ⊎ IsPassedOver input ok steps

-- What came of one input: by some steps these entries joined, the reports of each call are those after them, and these are
-- their messages.
pub record Took {A : Type 0} (site : SiteView) (es : List Entry) (before : Reports) (input : Inbound A) (ok : Bool) (es' : List Entry) (after : Reports) (sent : List Sent) : Type 0 where
  pub steps : List Step
  pub turn : IsTurn site before input ok steps
  pub entries : es' ≡ es ++ entries_of steps
  pub reports : (call : ℕ) → after call ≡ reports_left steps before call
  pub messages : sent ≡ messages_of steps

-- These steps are those of the turns, one turn after the other, from these reports on, and from so many receipts on: each turn
-- has its own, and `upto` is the number of receipts behind them.
abbrev pub AreTurns : {A : Type 0} → SiteView → Reports → ℕ → List (Turn A) → List Step → Type 0
AreTurns site reports before [] steps = steps ≡ []
AreTurns site reports before (t ∷ ts) steps =
    (here : List Step) × (later : List Step)
    × (steps ≡ here ++ later)
    × IsTurn site reports t.input t.ok here
    × (t.upto ≡ before + length (entries_of here))
    × AreTurns site (reports_left here reports) t.upto ts later

-- The steps of a worker's turns, from no reports and no receipts on, make these entries, and its links have passed on their
-- messages since their start, or refused some.
pub record IsWork {A : Type 0} (site : SiteView) (start : List Sent) (ts : List (Turn A)) (es : List Entry) (passed : List Sent) (refused : ℕ) : Type 0 where
  pub steps : List Step
  pub turns : AreTurns site no_reports 0 ts steps
  pub entries : es ≡ entries_of steps
  pub delivered : Delivered start passed refused (messages_of steps)

-- the inputs of turns, and those among letters
abbrev pub inputs_of_turns : {A : Type 0} → List (Turn A) → List (Inbound A)
inputs_of_turns turns = map (λ t. t.input) turns

abbrev pub inputs_of : {A : Type 0} → List (Letter A) → List (Inbound A)
inputs_of [] = []
inputs_of (Input input ∷ letters) = input ∷ inputs_of letters
inputs_of (Last ∷ letters) = inputs_of letters

-- What a worker has done with the inputs that it got: those that it kept come first, and are all where it still keeps them.
-- The steps of its turns leave these reports.
pub record Follows {A : Type 0} (site : SiteView) (start : List Sent) (got : List (Inbound A)) (entries : List Entry) (reports : Reports) (turns : List (Turn A)) (passed : List Sent) (refused : ℕ) (keeps : Bool) : Type 0 where
  pub in_order : (rest : List (Inbound A)) × (got ≡ inputs_of_turns turns ++ rest) × (keeps ≡ true → rest ≡ [])
  pub work : IsWork site start turns entries passed refused
  pub left : reports ≡ reports_left work.steps no_reports
