-- What the work on a row comes to.
use Rattle.std.specs.Prelude.{◌≡◌, ℕ, List, ◌++◌, Option, Some, None}
use Rattle.channel_fsm.specs.declared.ChanState.{ChanState}
use Rattle.rr_elements.specs.MeasResults.{Results}
use Rattle.radio_tables.specs.declared.kinds.CallRecord.{CallRecord}
use Rattle.radio_desk.specs.declared.desk.DeskFault.{DeskFault}
use Rattle.radio_desk.specs.declared.desk.DeskFault.TheVariants.{Foreign, NoMemory}
use Rattle.ho_procedure.specs.declared.work.Work.{Work}
use Rattle.ho_procedure.specs.declared.work.Flow.{Flow}
use Rattle.ho_procedure.specs.declared.work.Flow.TheVariants.{On, Over}
use Rattle.ho_procedure.specs.declared.work.Shown.{Shown}
use Rattle.ho_procedure.specs.Claims.{Entry, Claim, UnknownReceipt}
use Rattle.ho_procedure.specs.Windows.{Kept, reports_of}
use Rattle.ho_procedure.specs.Plan.{Plan, Ends, Step, Until, At, AtMemory, AtDesk, Leads, LeadsUntil, MayLack, ChoicesAt, entries_of, messages_of, reports_after}

-- the last reports of a call
abbrev pub last_reports : Kept → ℕ → List Results
last_reports windows call = (reports_of windows call).reports

-- What a view says where steps lead so far, after the entries so far. A row stops at a step that takes memory only where it
-- may be refused by what the view says; and at a step that asks the desk only where the view says that the desk doesn't know
-- the view's last receipt, and of which place that is.
abbrev pub MayStop : (Claim → Type 0) → Plan → List Step → Until → Type 0
MayStop says p t (At q) = Unit {0}
MayStop says p t AtMemory = (q : Plan) × Leads p t q × MayLack says q
MayStop says p t (AtDesk place) = says (UnknownReceipt place)

-- Some steps lead from the one plan to the other: their entries are what the view's log gained, their messages what is owed
-- since, and the reports of each call are those after them. Their choices are what the view says, and so is why they stop.
pub record Run {D A : Type 0} (log : D → List Entry) (says : D → List Entry → Claim → Type 0) (w : Work D A) (p : Plan) (w' : Work D A) (u : Until) : Type 0 where
  pub steps : List Step
  pub leads : LeadsUntil p steps u
  pub entries : log w'.view ≡ log w.view ++ entries_of steps
  pub messages : w'.owed.items ≡ w.owed.items ++ messages_of steps
  pub choices : ChoicesAt (says w.view) (log w.view) steps
  pub reports : (call : ℕ) → last_reports w'.windows call ≡ reports_after call steps (last_reports w.windows call)
  pub width : w'.windows.width ≡ w.windows.width
  pub said : (es : List Entry) → (claim : Claim) → says w'.view es claim → says w.view es claim
  pub stop : MayStop (says w.view (log w'.view)) p steps u

-- A run, closed: a caller needs no more of it than that runs may be put together.
unfoldable pub Goes : {D A : Type 0} → (D → List Entry) → (D → List Entry → Claim → Type 0) → Work D A → Plan → Work D A → Until → Type 0
Goes log says w p w' u = Run log says w p w' u

-- Whatever goes on from the second goes on so from the first.
abbrev pub Passes : {D A : Type 0} → (D → List Entry) → (D → List Entry → Claim → Type 0) → Work D A → Plan → Work D A → Plan → Type 0
Passes {D} {A} log says w p w' q = (w'' : Work D A) → (u : Until) → Goes log says w' q w'' u → Goes log says w p w'' u

-- what a row goes on with, where there is a call, or a record, to go on with
abbrev pub then_of : (ℕ → Plan) → Option ℕ → Plan
then_of next None = Ends
then_of next (Some c) = next c

abbrev pub then_shown : (CallRecord → Option ChanState → Plan) → Option Shown → Plan
then_shown next None = Ends
then_shown next (Some x) = next x.record x.state

-- where a row goes on it has this plan, and where it is over none
abbrev pub then : Plan → Flow → Plan
then tail On = tail
then tail Over = Ends

-- Where a row stops that this fault stopped: at a step that asks the desk, which doesn't know the view's last receipt, of
-- this place; or, where memory was refused, at a step that takes memory.
unfoldable pub stops_at : DeskFault → Until
stops_at (Foreign place) = AtDesk place
stops_at NoMemory = AtMemory
