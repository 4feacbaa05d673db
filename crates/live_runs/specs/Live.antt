-- What came of lines at a live controller. Ours, of no standard.
use Rattle.std.specs.Prelude.{◌≡◌, ◌≢◌, ◌⊎◌, ◌<◌, ◌++◌, ℕ, Bool, List, [], ◌∷◌, Option, Some, IfSome, length}
use Rattle.radio_book.specs.State.{State}
use Rattle.decoded_lines.specs.Reading.{first_line, behind_line}
use Rattle.lab_script.specs.declared.script.Item.{Item}
use Rattle.run_listeners.specs.declared.turn.Turn.{Turn}
use Rattle.radio_book.specs.declared.event.Event.{Event}
use Rattle.radio_book.specs.declared.event.Reply.{Reply}
use Rattle.lab_runs.specs.declared.course.Course.{Course}
use Rattle.lab_runs.specs.Turns.{Position, Plays}
use Rattle.lab_runs.specs.Course.{IsAnewAt, BeginsWith, positions_of, has_peer, has_simulators}
use Rattle.live_runs.specs.declared.taking.Live.{Live}
use Rattle.live_runs.specs.Lines.{given_by, items_from, sim_by}

-- a line attached the simulators
abbrev pub has_sim : {A : Type 0} → Live A → Bool
has_sim s = has_simulators s.course

-- what the desk was asked since it began, or began anew
abbrev pub history_of : {A : Type 0} → Course A → List (Event × Reply)
history_of course = course.controllers.first.0.desk.history

-- the history has fewer entries than these, or none
abbrev pub IsShort : {A : Type 0} → ℕ → Course A → Type 0
IsShort entries course = (length (history_of course) < entries) ⊎ (history_of course ≡ [])

-- a controller is as it was, or its desk began anew
abbrev pub StaysOrRests : Position → Position → Type 0
StaysOrRests s s' = (s' ≡ s) ⊎ IsAnewAt s s'

-- the first of some controllers is as it was, or its desk began anew; every other is as it was
abbrev pub FirstRests : List Position → List Position → Type 0
FirstRests [] all' = all' ≡ []
FirstRests (s ∷ others) all' = (s' : Position) × (all' ≡ s' ∷ others) × StaysOrRests s s'

-- one controller is as it was, or its desk began anew
pub record Rests {A : Type 0} (s s' : Live A) : Type 0 where
  pub first : FirstRests (positions_of s.course.controllers) (positions_of s'.course.controllers)
  pub peer : has_peer s'.course ≡ has_peer s.course
  pub sim : has_sim s' ≡ has_sim s

-- These turns are those of what lines give, in its order, each as a script's; before each, and at the end, the desk of the first
-- controller may begin anew.
abbrev pub PlaysWithRests : {A : Type 0} → List (Item A) → List Position → List (Turn A) → List Position → Type 0
PlaysWithRests [] all turns all' = (turns ≡ []) × FirstRests all all'
PlaysWithRests {A} (item ∷ items) all turns all' =
    (before m : List Position) × (mine rest : List (Turn A)) × (turns ≡ mine ++ rest)
    × FirstRests all before × Plays (item ∷ []) before mine m × PlaysWithRests items m rest all'

-- By turns the controller came where it is, between which its desk may have begun anew, and they are those of what lines gave it,
-- in their order; all others are a simulator's by their source.
pub record Goes {A : Type 0} (items : List (Item A)) (s s' : Live A) : Type 0 where
  pub turns : List (Turn A)
  pub plays : PlaysWithRests items (positions_of s.course.controllers) turns (positions_of s'.course.controllers)
  pub peer : has_peer s'.course ≡ has_peer s.course

-- a line was taken, where it may attach simulators or may not: what it gives was handled
pub record Takes {A : Type 0} (sims : Bool) (line : List ℕ) (s s' : Live A) : Type 0 where
  pub goes : Goes (given_by sims (has_sim s) line) s s'
  pub sim : has_sim s' ≡ sim_by sims (has_sim s) line

-- the first line of what a reader has left was taken, and the reader has it no more
abbrev pub TakesFirst : {A : Type 0} → Bool → Option (List ℕ) → Option (List ℕ) → Live A → Live A → Type 0
TakesFirst sims old new s s' = IfSome old (λ octets. (octets ≢ []) × Takes sims (first_line octets) s s' × (new ≡ Some (behind_line octets)))

-- all lines of some octets were taken
abbrev pub TakesAll : {A : Type 0} → Bool → Option (List ℕ) → Live A → Live A → Type 0
TakesAll sims old s s' = IfSome old (λ octets. Goes (items_from sims (has_sim s) octets) s s')

-- From a controller over a book on, which was given nothing before, everything was handled that these items give, in their order,
-- and between them what is a simulator's by its source. The desk may have begun anew between any two items.
pub record Played (A : Type 0) (b : State) (items : List (Item A)) : Type 0 where
  pub first : Position
  pub opening : BeginsWith b first
  pub turns : List (Turn A)
  pub last : List Position
  pub plays : PlaysWithRests items (first ∷ []) turns last
