-- The course of a script. Ours, of no standard.
use Rattle.std.specs.Prelude.{◌≡◌, ◌++◌, ℕ, Bool, List, map, [], ◌∷◌, Option, Some, None, is_some}
use Rattle.cell_table.specs.Site.{SiteView}
use Rattle.cell_table.specs.SiteFile.{described_site}
use Rattle.radio_book.specs.State.{State, empty_book}
use Rattle.radio_desk.specs.Desk.{IsAnew}
use Rattle.exchange.specs.declared.Inbound.{Inbound}
use Rattle.ho_procedure.specs.Going.{last_reports}
use Rattle.lab_script.specs.declared.side.Side.{Side}
use Rattle.lab_script.specs.declared.script.Item.{Item}
use Rattle.lab_script.specs.Script.{first_unreadable, items_of}
use Rattle.run_listeners.specs.declared.turn.Turn.{Turn}
use Rattle.lab_runs.specs.declared.controllers.Controllers.{Controllers}
use Rattle.lab_runs.specs.declared.course.Course.{Course}
use Rattle.lab_runs.specs.declared.course.Run.{Run}
use Rattle.lab_runs.specs.Turns.{Position, AreTurns, scripted, Plays}

abbrev pub option_list : {X : Type 0} → Option X → List X
option_list None = []
option_list (Some x) = x ∷ []

-- a controller of the site over an empty book, which was given nothing yet
pub record IsOpening (site : SiteView) (s : Position) : Type 0 where
  pub opening : s.0.desk.opening ≡ empty_book site
  pub history : s.0.desk.history ≡ []
  pub reports : (call : ℕ) → last_reports s.1 call ≡ []
  pub of_site : s.2 ≡ site

-- a controller over a book, which was given nothing yet
pub record BeginsWith (b : State) (s : Position) : Type 0 where
  pub opening : s.0.desk.opening ≡ b
  pub history : s.0.desk.history ≡ []
  pub reports : (call : ℕ) → last_reports s.1 call ≡ []
  pub of_site : s.2 ≡ b.site

-- its desk began anew; the last reports of each call, and the site, are as before
pub record IsAnewAt (s s' : Position) : Type 0 where
  pub desk : IsAnew s.0.desk s'.0.desk
  pub reports : s'.1 ≡ s.1
  pub of_site : s'.2 ≡ s.2

-- one such of each site
abbrev pub AreOpenings : List SiteView → List Position → Type 0
AreOpenings [] [] = Unit {0}
AreOpenings [] (s ∷ ss) = ⊥
AreOpenings (site ∷ sites) [] = ⊥
AreOpenings (site ∷ sites) (s ∷ ss) = IsOpening site s × AreOpenings sites ss

-- the controllers: the first, and its peer where there is one
abbrev pub positions_of : {A : Type 0} → Controllers A → List Position
positions_of all = all.first ∷ option_list all.peer

abbrev pub has_peer : {A : Type 0} → Course A → Bool
has_peer c = is_some c.controllers.peer

-- simulators are attached
abbrev pub has_simulators : {A : Type 0} → Course A → Bool
has_simulators c = is_some c.simulators

-- turns were added by which the controllers came where they are, and these are the inputs that a script gave them
pub record Went {A : Type 0} (inputs : List (Side × Inbound A)) (c c' : Course A) : Type 0 where
  pub turns : List (Turn A)
  pub noted : c'.turns.items ≡ c.turns.items ++ turns
  pub run : AreTurns (positions_of c.controllers) turns (positions_of c'.controllers)
  pub peer : has_peer c' ≡ has_peer c
  pub scripted : scripted turns ≡ inputs

-- turns were added by which the controllers came where they are, and they are those of these items of a script
pub record Follows {A : Type 0} (items : List (Item A)) (c c' : Course A) : Type 0 where
  pub turns : List (Turn A)
  pub noted : c'.turns.items ≡ c.turns.items ++ turns
  pub plays : Plays items (positions_of c.controllers) turns (positions_of c'.controllers)
  pub peer : has_peer c' ≡ has_peer c

-- The run's turns lead, one by one, from controllers of the sites over empty books to those of the run, and they are those of
-- these items of a script, in their order and each for the controller that it names; all others are a simulator's by their
-- source.
pub record IsRunOf {A : Type 0} (sites : List SiteView) (items : List (Item A)) (run : Run A) : Type 0 where
  pub first : List Position
  pub openings : AreOpenings sites first
  pub plays : Plays items first run.turns.items (positions_of run.controllers)

-- Turn by turn, from controllers of the sites over empty books on, everything was handled that these items give, in their
-- order and each by the controller that it names, and between them what is a simulator's by its source.
pub record Played (A : Type 0) (sites : List SiteView) (items : List (Item A)) : Type 0 where
  pub first : List Position
  pub openings : AreOpenings sites first
  pub turns : List (Turn A)
  pub last : List Position
  pub plays : Plays items first turns last

-- the texts are a site, a peer's where one is given, and a script for them, and all that the script gives was handled
pub record IsPlayed (A : Type 0) (site : List ℕ) (peer : Option (List ℕ)) (script : List ℕ) : Type 0 where
  pub sites : List SiteView
  pub described : map described_site (site ∷ option_list peer) ≡ map Some sites
  pub readable : first_unreadable (is_some peer) script ≡ None
  pub played : Played A sites (items_of script)
