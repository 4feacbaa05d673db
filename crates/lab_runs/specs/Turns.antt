-- Inputs, and what came of each. Ours, of no standard.
use Rattle.std.specs.Prelude.{◌≡◌, ◌++◌, Bool, true, false, List, [], ◌∷◌, map, Option, Some, None, drop, length, slice_get, slice_set}
use Rattle.std.specs.List.{filter_map}
use Rattle.cell_table.specs.Site.{SiteView}
use Rattle.radio_book.specs.Run.{Leads}
use Rattle.trace_text.specs.declared.trace.Step.{Step}
use Rattle.trace_text.specs.declared.trace.Step.TheVariants.{Asked, NoneFree}
use Rattle.exchange.specs.declared.Inbound.{Inbound}
use Rattle.exchange.specs.declared.Link.{Link}
use Rattle.ho_procedure.specs.Claims.{Entry, Claim, IsTrueAfter}
use Rattle.ho_procedure.specs.Claims as claim
use Rattle.ho_procedure.specs.Windows.{Kept}
use Rattle.ho_procedure.specs.Going.{last_reports}
use Rattle.ho_procedure.specs.Sent.{all_sent}
use Rattle.ho_procedure.specs.Plan.{Plan, Ends, At}
use Rattle.ho_procedure.specs.Handling.{IsRow, IsUndecoded, Handles}
use Rattle.lab_script.specs.declared.side.Side.{Side}
use Rattle.lab_script.specs.declared.script.Given.{Given}
use Rattle.lab_script.specs.declared.script.Given.TheVariants.{Input, Attach, Set, HangUp, Ask, MobileOf, Restart}
use Rattle.lab_script.specs.declared.script.Item.{Item}
use Rattle.lab_script.specs.Sides.{number_of}
use Rattle.run_listeners.specs.declared.turn.Source.{Source}
use Rattle.run_listeners.specs.declared.turn.Source.TheVariants.{Script, Simulator}
use Rattle.run_listeners.specs.declared.turn.Answer.{Answer}
use Rattle.run_listeners.specs.declared.turn.Answer.TheVariants.{Sent, Undecoded}
use Rattle.run_listeners.specs.declared.turn.Turn.{Turn}
use Rattle.radio_book.specs.State.{State}
use Rattle.lab_runs.specs.Notes.{NotingState, with_notes, AreTrueSteps}
use Rattle.lab_runs.specs.Asked.{AreAsked}

-- a controller between two inputs: its desk with notes, the last reports of each call, and its site
abbrev pub Position : Type 0
Position = NotingState × Kept × SiteView

-- the events among what was asked, each with its reply
abbrev pub entry_of : Step → Option Entry
entry_of (Asked event reply) = Some (event, reply)
entry_of (NoneFree cell rate) = None

abbrev pub asked_in : List Step → List Entry
asked_in steps = filter_map entry_of steps

abbrev pub history_of : NotingState → List Entry
history_of view = view.desk.history

-- What a view says that began with this book: what is true of the book that the entries lead to; and that memory may be refused
-- wherever a channel is taken, for a note.
abbrev pub IsSaidAfter : State → List Entry → Claim → Type 0
IsSaidAfter opening log (claim.NoneFree cell rate) = IsTrueAfter opening log (claim.NoneFree cell rate)
IsSaidAfter opening log (claim.Chosen e) = IsTrueAfter opening log (claim.Chosen e)
IsSaidAfter opening log (claim.Opening book) = IsTrueAfter opening log (claim.Opening book)
IsSaidAfter opening log (claim.UnknownReceipt place) = IsTrueAfter opening log (claim.UnknownReceipt place)
IsSaidAfter opening log (claim.MayBeRefused e) = IsTrueAfter opening log (claim.MayBeRefused e)
IsSaidAfter opening log (claim.TakeMayBeRefused cell rate) = Unit {0}

abbrev pub says : NotingState → List Entry → Claim → Type 0
says view log claim = IsSaidAfter view.desk.opening log claim

-- A controller answers an input so: it follows the input's row, and sends these messages; or the input has this fault, and
-- nothing changes.
abbrev pub Answers : {A : Type 0} → Position → Inbound A → Answer A → Position → Type 0
Answers s input (Sent out) s' =
    (p : Plan) × IsRow s.2 (last_reports s.1) input p × Handles history_of says s.0 s.1 p s'.0 s'.1 (all_sent out.items) (At Ends)
Answers s input (Undecoded bad) s' = ((link : Link) × IsUndecoded input link bad) × (s'.0 ≡ s.0) × (s'.1 ≡ s.1)

-- It answers the turn's input so. Its desk was asked what the turn says, and what was asked in all leads, reply by reply, from
-- the book that it opened with to its book; that one and its site stay. Where the turn says that no channel of a cell was free,
-- none was; and it says so wherever that was noted.
pub record IsTurn {A : Type 0} (s : Position) (t : Turn A) (s' : Position) : Type 0 where
  pub answers : Answers s t.input t.answer s'
  pub asked : s'.0.desk.history ≡ s.0.desk.history ++ asked_in t.steps.items
  pub none_free : AreTrueSteps s.0.desk.opening s.0.desk.history t.steps.items
  pub noted : t.steps.items ≡ with_notes (length s.0.desk.history) (drop (length s.0.notes) s'.0.notes) (asked_in t.steps.items)
  pub legal : Leads s'.0.desk.opening s'.0.desk.history s'.0.desk.book
  pub opening : s'.0.desk.opening ≡ s.0.desk.opening
  pub site : s'.2 ≡ s.2

-- of some controllers, of which the first is the first, the one that the turn names answers so; every other stays as it is
pub record IsTurnOf {A : Type 0} (all : List Position) (t : Turn A) (all' : List Position) : Type 0 where
  pub before : Position
  pub after : Position
  pub there : slice_get all (number_of t.side) ≡ Some before
  pub turn : IsTurn before t after
  pub others : all' ≡ slice_set all (number_of t.side) after

-- turn by turn
abbrev pub AreTurns : {A : Type 0} → List Position → List (Turn A) → List Position → Type 0
AreTurns all [] all' = all' ≡ all
AreTurns all (t ∷ turns) all' = (m : List Position) × IsTurnOf all t m × AreTurns m turns all'

-- the input of a turn, and the controller that it is for, where a script gave it
abbrev pub listed : {A : Type 0} → Source → Side → Inbound A → List (Side × Inbound A)
listed Script side input = (side, input) ∷ []
listed Simulator side input = []

-- the inputs that a script gave, in their order
abbrev pub scripted : {A : Type 0} → List (Turn A) → List (Side × Inbound A)
scripted [] = []
scripted (t ∷ turns) = listed t.source t.side t.input ++ scripted turns

-- What is given gives a controller these inputs, as the controller is when the line is played: an input is that one; what is
-- asked is found by its book; nothing else gives any.
abbrev pub GivesTo : {A : Type 0} → Position → Given A → List (Inbound A) → Type 0
GivesTo s (Input input) inputs = inputs ≡ input ∷ []
GivesTo s Attach inputs = inputs ≡ []
GivesTo s (Set setting) inputs = inputs ≡ []
GivesTo s (HangUp call) inputs = inputs ≡ []
GivesTo s (Ask asked) inputs = AreAsked s.0.desk asked inputs
GivesTo s (MobileOf call habit) inputs = inputs ≡ []
GivesTo s (Restart restart) inputs = inputs ≡ []

-- what a line gives the one of some controllers that it is for
pub record Gives {A : Type 0} (all : List Position) (item : Item A) (inputs : List (Side × Inbound A)) : Type 0 where
  pub controller : Position
  pub there : slice_get all (number_of item.side) ≡ Some controller
  pub given : List (Inbound A)
  pub gives : GivesTo controller item.given given
  pub for_it : inputs ≡ map (λ input. (item.side, input)) given

-- These turns are those of what a script gives, in its order: each item has its inputs, as the controllers are when it is
-- played, and with them what is a simulator's by its source.
abbrev pub Plays : {A : Type 0} → List (Item A) → List Position → List (Turn A) → List Position → Type 0
Plays [] all turns all' = (turns ≡ []) × (all' ≡ all)
Plays {A} (item ∷ items) all turns all' =
    (inputs : List (Side × Inbound A)) × Gives all item inputs × (mine : List (Turn A)) × (rest : List (Turn A)) × (m : List Position)
    × (turns ≡ mine ++ rest) × AreTurns all mine m × (scripted mine ≡ inputs) × Plays items m rest all'

-- what is given attaches the simulators
abbrev pub is_attach : {A : Type 0} → Given A → Bool
is_attach (Input input) = false
is_attach Attach = true
is_attach (Set setting) = false
is_attach (HangUp call) = false
is_attach (Ask asked) = false
is_attach (MobileOf call habit) = false
is_attach (Restart restart) = false
