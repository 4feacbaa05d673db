-- Facts of turns, and of the course of a script.
use Rattle.std.proofs.Common.{◌≡◌, ◌++◌, ◌∷◌, ◌<◌, ℕ, zero, suc, Bool, true, List, [], Option, Some, None, IsSome, IfSome, length, get_or, is_some, option_map, map, slice_get, refl, sym, ap, ◌∙◌, append_assoc, append-nil, subst, rules, arith, Result, Ok, Err, OnOk, IfOk}
use Rattle.std.proofs.lemmas.Bool.{and_parts}
use Rattle.std.proofs.lemmas.Result.{on_ok_weaker}
use Rattle.cell_table.specs.Site.{SiteView}
use Rattle.exchange.specs.declared.Inbound.{Inbound}
use Rattle.lab_script.specs.declared.side.Side.{Side}
use Rattle.lab_script.specs.declared.side.Side.TheVariants.{First, Peer}
use Rattle.lab_script.specs.declared.script.Given.{Given}
use Rattle.lab_script.specs.declared.script.Given.TheVariants.{Input}
use Rattle.lab_script.specs.declared.script.Item.{Item}
use Rattle.lab_script.specs.Script.{AreThere, is_item_there}
use Rattle.lab_script.specs.Sides.{is_there, number_of}
use Rattle.lab_runs.specs.declared.controllers.Controllers.{Controllers}
use Rattle.run_listeners.specs.declared.turn.Source.{Source}
use Rattle.run_listeners.specs.declared.turn.Source.TheVariants.{Script}
use Rattle.run_listeners.specs.declared.turn.Turn.{Turn}
use Rattle.lab_runs.specs.declared.course.Course.{Course}
use Rattle.lab_runs.specs.declared.course.Run.{Run}
use Rattle.lab_runs.specs.Turns.{Position, AreTurns, IsTurn, IsTurnOf, Gives, GivesTo, Plays, listed, scripted}
use Rattle.lab_runs.specs.Course.{Went, Follows, AreOpenings, IsRunOf, Played, positions_of, option_list, has_peer}

pub turns_joined : {A : Type 0} (all : List Position) (ts : List (Turn A)) (m : List Position) (us : List (Turn A)) (all' : List Position) → AreTurns all ts m → AreTurns m us all' → AreTurns all (ts ++ us) all'
turns_joined all [] m us all' h k = rw (sym h) k
turns_joined all (t ∷ ts) m us all' h k = (h.0, h.1, turns_joined h.0 ts m us all' h.2 k)

pub scripted_joined : {A : Type 0} (ts us : List (Turn A)) → scripted (ts ++ us) ≡ scripted ts ++ scripted us
scripted_joined [] us = refl
scripted_joined (t ∷ ts) us = ap (λ rest. listed t.source t.side t.input ++ rest) (scripted_joined ts us) ∙ sym (append_assoc (listed t.source t.side t.input) (scripted ts) (scripted us))

-- the first controller took a turn
pub first_took : {A : Type 0} (all : Controllers A) (s' : Position) (t : Turn A) → t.side ≡ First → IsTurn all.first t s' → IsTurnOf (positions_of all) t (s' ∷ option_list all.peer)
first_took all s' t side turn = record { before = all.first; after = s'; there = rw side refl; turn = turn; others = rw side refl }

-- its peer did
pub peer_took : {A : Type 0} (first s s' : Position) (t : Turn A) → t.side ≡ Peer → IsTurn s t s' → IsTurnOf (first ∷ option_list (Some s)) t (first ∷ option_list (Some s'))
peer_took first s s' t side turn = record { before = s; after = s'; there = rw side refl; turn = turn; others = rw side refl }

-- the first controller took a turn, unless the call failed
pub first_taken : {A E : Type 0} (all : Controllers A) (s' : Position) (r : Result (Turn A) E) → IfOk r (λ t. t.side ≡ First) → IfOk r (λ t. IsTurn all.first t s') → IfOk r (λ t. IsTurnOf (positions_of all) t (s' ∷ option_list all.peer))
first_taken all s' (Ok t) side turn = first_took all s' t side turn
first_taken all s' (Err e) side turn = tt

pub peer_taken : {A E : Type 0} (all : Controllers A) (s s' : Position) (r : Result (Turn A) E) → all.peer ≡ Some s → IfOk r (λ t. t.side ≡ Peer) → IfOk r (λ t. IsTurn s t s') → IfOk r (λ t. IsTurnOf (positions_of all) t (all.first ∷ option_list (Some s')))
peer_taken all s s' (Ok t) is side turn = rw is (peer_took all.first s s' t side turn)
peer_taken all s s' (Err e) is side turn = tt

-- nothing was handled
pub went_nowhere : {A : Type 0} (c c' : Course A) → c'.controllers ≡ c.controllers → c'.turns.items ≡ c.turns.items → Went [] c c'
went_nowhere c c' same noted = record {
  turns = [];
  noted = noted ∙ search rules;
  run = ap (λ (all : Controllers _). positions_of all) same;
  peer = ap (λ (all : Controllers _). is_some all.peer) same;
  scripted = refl;
}

-- nothing was done
pub stayed : {A : Type 0} (c : Course A) → Went [] c c
stayed c = went_nowhere c c refl refl

-- one input was handled
pub went_once : {A : Type 0} (c c' : Course A) (t : Turn A) (source : Source) (side : Side) (input : Inbound A)
    → IsTurnOf (positions_of c.controllers) t (positions_of c'.controllers) → c'.turns.items ≡ c.turns.items ++ t ∷ [] → has_peer c' ≡ has_peer c
    → t.source ≡ source → t.side ≡ side → t.input ≡ input → Went (listed source side input) c c'
went_once c c' t source side input turn noted peer of on given = record {
  turns = t ∷ [];
  noted = noted;
  run = (positions_of c'.controllers, turn, refl);
  peer = peer;
  scripted = append-nil (listed t.source t.side t.input) ∙ rw (of, on, given) refl;
}

-- and then more
pub went_on : {A : Type 0} (inputs more : List (Side × Inbound A)) (c c' c'' : Course A) → Went inputs c c' → Went more c' c'' → Went (inputs ++ more) c c''
went_on inputs more c c' c'' h k = record {
  turns = h.turns ++ k.turns;
  noted = k.noted ∙ (ap (λ front. front ++ k.turns) h.noted ∙ append_assoc c.turns.items h.turns k.turns);
  run = turns_joined _ h.turns _ k.turns _ h.run k.run;
  peer = k.peer ∙ h.peer;
  scripted = scripted_joined h.turns k.turns ∙ rw (h.scripted, k.scripted) refl;
}

-- what holds anyway holds where all went well
pub where_ok : {X E : Type 0} (P : Type 0) (r : Result X E) → P → OnOk r P
where_ok P (Ok x) p = p
where_ok P (Err f) p = tt

-- and then none of a script
pub went_then : {A : Type 0} (inputs : List (Side × Inbound A)) (c c' c'' : Course A) → Went inputs c c' → Went [] c' c'' → Went inputs c c''
went_then inputs c c' c'' h k = subst (λ (all : List (Side × Inbound _)). Went all c c'') (append-nil inputs) (went_on inputs [] c c' c'' h k)

-- a course went on where a call went well
pub went_past : {A X E : Type 0} (inputs : List (Side × Inbound A)) (c c' c'' : Course A) (r : Result X E) → Went inputs c c' → OnOk r (Went [] c' c'') → OnOk r (Went inputs c c'')
went_past inputs c c' c'' r h = on_ok_weaker r (went_then inputs c c' c'' h)

-- each of the items is for a controller that is there
pub there_at : {A : Type 0} (has : Bool) (items : List (Item A)) (k : ℕ) (d : Item A) → AreThere has items → k < length items → is_item_there has (get_or items k d) ≡ true
there_at has [] k d all l = absurd (omega arith)
there_at has (item ∷ items) zero d all l = (and_parts (is_item_there has item) _ all).0
there_at has (item ∷ items) (suc k) d all l = there_at has items k d (and_parts (is_item_there has item) _ all).1 (omega arith)

-- turns of items, and then of more
pub plays_on : {A : Type 0} (items more : List (Item A)) (all : List Position) (ts : List (Turn A)) (m : List Position) (us : List (Turn A)) (all' : List Position)
    → Plays items all ts m → Plays more m us all' → Plays (items ++ more) all (ts ++ us) all'
plays_on [] more all ts m us all' h k = rw (h.0, sym h.1) k
plays_on (item ∷ items) more all ts m us all' (inputs, gives, mine, rest, n, is, run, scripted, plays) k =
    (inputs, gives, mine, rest ++ us, n, ap (λ all. all ++ us) is ∙ append_assoc mine rest us, run, scripted, plays_on items more n rest m us all' plays k)

-- what an item gives was handled
pub follows_one : {A : Type 0} (item : Item A) (inputs : List (Side × Inbound A)) (c c' : Course A) → Gives (positions_of c.controllers) item inputs → Went inputs c c' → Follows (item ∷ []) c c'
follows_one item inputs c c' gives h = record {
  turns = h.turns;
  noted = h.noted;
  plays = (inputs, gives, h.turns, [], positions_of c'.controllers, sym (append-nil h.turns), h.run, h.scripted, (refl, refl));
  peer = h.peer;
}

-- a controller that is there has a position
there_in : (first : Position) (peer : Option Position) (side : Side) → is_there (is_some peer) side ≡ true → (s : Position) × (slice_get (first ∷ option_list peer) (number_of side) ≡ Some s)
there_in first peer First h = (first, refl)
there_in first (Some s) Peer h = (s, refl)
there_in first None Peer h = absurd (search (rules, h))

-- the inputs that an item gives were handled
pub follows_given : {A : Type 0} (item : Item A) (given : List (Inbound A)) (c c' : Course A) → is_item_there (has_peer c) item ≡ true
    → ((s : Position) → slice_get (positions_of c.controllers) (number_of item.side) ≡ Some s → GivesTo s item.given given)
    → Went (map (λ input. (item.side, input)) given) c c' → Follows (item ∷ []) c c'
follows_given item given c c' there gives h =
    let (s, at) = there_in c.controllers.first c.controllers.peer item.side there in
    follows_one item _ c c' (record { controller = s; there = at; given = given; gives = gives s at; for_it = refl }) h

-- an item that is an input gives that
pub follows_input : {A : Type 0} (item : Item A) (input : Inbound A) (c c' : Course A) → is_item_there (has_peer c) item ≡ true → item.given ≡ Input input
    → Went (listed Script item.side input) c c' → Follows (item ∷ []) c c'
follows_input item input c c' there is h =
    follows_given item (input ∷ []) c c' there (λ s at. subst (λ g. GivesTo s g (input ∷ [])) (sym is) refl) h

-- an item that gives no input
pub follows_silent : {A : Type 0} (item : Item A) (given : Given A) (c c' : Course A) → is_item_there (has_peer c) item ≡ true → item.given ≡ given → ((s : Position) → GivesTo s given [])
    → Went [] c c' → Follows (item ∷ []) c c'
follows_silent item given c c' there is gives h = follows_given item [] c c' there (λ s at. subst (λ g. GivesTo s g []) (sym is) (gives s)) h

-- an item whose parts are these
pub follows_as : {A : Type 0} (item : Item A) (given : Given A) (c c' : Course A) → item.given ≡ given → Follows (record { side = item.side; given = given } ∷ []) c c' → Follows (item ∷ []) c c'
follows_as item given c c' is h = subst (λ (i : Item _). Follows (i ∷ []) c c') (λ i. record { side = item.side; given = sym is i }) h

-- nothing was given
pub follows_none : {A : Type 0} (c : Course A) → Follows [] c c
follows_none c = record { turns = []; noted = search rules; plays = (refl, refl); peer = refl }

-- and then more
pub follows_on : {A : Type 0} (items more : List (Item A)) (c c' c'' : Course A) → Follows items c c' → Follows more c' c'' → Follows (items ++ more) c c''
follows_on items more c c' c'' h k = record {
  turns = h.turns ++ k.turns;
  noted = k.noted ∙ (ap (λ front. front ++ k.turns) h.noted ∙ append_assoc c.turns.items h.turns k.turns);
  plays = plays_on items more _ h.turns _ k.turns _ h.plays k.plays;
  peer = k.peer ∙ h.peer;
}

-- and then what simulators send
pub plays_then : {A : Type 0} (item : Item A) (all : List Position) (ts : List (Turn A)) (m : List Position) (us : List (Turn A)) (all' : List Position)
    → Plays (item ∷ []) all ts m → AreTurns m us all' → scripted us ≡ [] → Plays (item ∷ []) all (ts ++ us) all'
plays_then item all ts m us all' (inputs, gives, mine, rest, n, is, run, given, (none, last)) turns others =
    let whole : ts ≡ mine = is ∙ (ap (λ rest. mine ++ rest) none ∙ append-nil mine) in (
      inputs,
      gives,
      mine ++ us,
      [],
      all',
      ap (λ ts. ts ++ us) whole ∙ sym (append-nil (mine ++ us)),
      turns_joined all mine n us all' run (subst (λ m. AreTurns m us all') last turns),
      scripted_joined mine us ∙ (rw (given, others) (append-nil inputs)),
      (refl, refl),
    )

pub follows_then : {A : Type 0} (item : Item A) (c c' c'' : Course A) → Follows (item ∷ []) c c' → Went [] c' c'' → Follows (item ∷ []) c c''
follows_then item c c' c'' h k = record {
  turns = h.turns ++ k.turns;
  noted = k.noted ∙ (ap (λ front. front ++ k.turns) h.noted ∙ append_assoc c.turns.items h.turns k.turns);
  plays = plays_then item _ h.turns _ k.turns _ h.plays k.run k.scripted;
  peer = k.peer ∙ h.peer;
}

-- an item was followed where a call went well
pub follows_past : {A X E : Type 0} (item : Item A) (c c' c'' : Course A) (r : Result X E) → Follows (item ∷ []) c c' → OnOk r (Went [] c' c'') → OnOk r (Follows (item ∷ []) c c'')
follows_past item c c' c'' r h = on_ok_weaker r (follows_then item c c' c'' h)

-- from empty books on, all was handled
pub all_played : {A : Type 0} (sites : List SiteView) (items : List (Item A)) (c c' : Course A) → AreOpenings sites (positions_of c.controllers) → Follows items c c' → Played A sites items
all_played sites items c c' openings h = record {
  first = positions_of c.controllers;
  openings = openings;
  turns = h.turns;
  last = positions_of c'.controllers;
  plays = h.plays;
}

-- a course that began so with no turn, and went on to what a run is made of
pub all_ran : {A : Type 0} (sites : List SiteView) (items : List (Item A)) (c c' : Course A) (run : Run A) → AreOpenings sites (positions_of c.controllers) → c.turns.items ≡ [] → Follows items c c' → run.turns ≡ c'.turns → run.controllers ≡ c'.controllers → IsRunOf sites items run
all_ran sites items c c' run openings none h turns controllers =
    let noted : run.turns.items ≡ h.turns = ap (λ (ts : _). ts.items) turns ∙ (h.noted ∙ ap (λ front. front ++ h.turns) none) in
    let last : positions_of run.controllers ≡ positions_of c'.controllers = ap (λ (all : Controllers _). positions_of all) controllers in
    record {
      first = positions_of c.controllers;
      openings = openings;
      plays = subst (λ ts. Plays items (positions_of c.controllers) ts (positions_of run.controllers)) (sym noted)
          (subst (λ all. Plays items (positions_of c.controllers) h.turns all) (sym last) h.plays);
    }

-- what ran was played
pub was_played : {A : Type 0} (sites : List SiteView) (items : List (Item A)) (run : Run A) → IsRunOf sites items run → Played A sites items
was_played sites items run h = record {
  first = h.first;
  openings = h.openings;
  turns = run.turns.items;
  last = positions_of run.controllers;
  plays = h.plays;
}

-- where there is a run, it was played
pub some_played : {A : Type 0} (sites : List SiteView) (items : List (Item A)) (run : Option (Run A)) → IfSome run (λ r. IsRunOf sites items r) → IsSome run → Played A sites items
some_played sites items (Some run) h is = was_played sites items run h
some_played sites items None h is = absurd (search (rules, is))

-- what was followed to its end was played
pub heard_played : {A E : Type 0} (sites : List SiteView) (items : List (Item A)) (c c' : Course A) (r : Result Bool E) → AreOpenings sites (positions_of c.controllers) → IfOk r (λ well. well ≡ true → Follows items c c') → IfOk r (λ well. well ≡ true → Played A sites items)
heard_played sites items c c' (Ok well) openings h = λ on. all_played sites items c c' openings (h on)
heard_played sites items c c' (Err fault) openings h = tt

-- what is made of a value is there just where the value is
pub is_there_still : {A B : Type 0} (f : A → B) (o : Option A) → is_some (option_map f o) ≡ is_some o
is_there_still f None = refl
is_there_still f (Some x) = refl
