-- A call that an office is given to open is asked of its desk.
use Rattle.std.proofs.Common.{◌≡◌, ◌⊎◌, inl, inr, ℕ, zero, suc, ◌<◌, ◌+◌, ◌%◌, List, [], ◌∷◌, ◌++◌, length, map, get_or, set, take, Bool, true, false, true≢false, refl, ap, sym, ◌∙◌, subst, arith, rules, All, vec_len, Some, Option, Result, Ok, Err, IfOk}
use Rattle.std.proofs.lemmas.List.{append-nil, length-map, nil_from_length, length-append}
use Rattle.std.proofs.lemmas.List.Elements.{All-head, All-tail, All-weaker, All-more}
use Rattle.std.specs.List.{flat_map}
use Rattle.channel_fsm.specs.declared.ChanId.{ChanId}
use Rattle.cell_table.specs.Site.{SiteView}
use Rattle.radio_book.specs.declared.event.Event.{Event}
use Rattle.radio_book.specs.declared.event.Event.TheVariants.{Open}
use Rattle.radio_book.specs.declared.event.Reply.{Reply}
use Rattle.radio_book.specs.State.{State}
use Rattle.radio_desk.specs.Receipts.{Receipt, receipted}
use Rattle.receipt_check.specs.Gathering.{StandsAt}
use Rattle.exchange.specs.declared.Inbound.{Inbound}
use Rattle.exchange.specs.declared.Inbound.TheVariants.{Operator}
use Rattle.exchange.specs.declared.Line.TheVariants as line
use Rattle.ho_procedure.specs.Sent.{Sent}
use Rattle.ho_procedure.specs.Claims.{Entry}
use Rattle.ho_procedure.specs.Plan.{Plan, Ends, Readies, ForMessages, Asks, Step, Moves, Leads, entries_in, entries_of}
use Rattle.ho_procedure.specs.Handling.{IsRow}
use Rattle.ho_procedure.specs.Procedure.{open_plan, opened_plan, once_done, if_done}
use Rattle.ho_procedure.proofs.Going.{entries_of-append}
use Rattle.call_worker.specs.declared.posted.WorkerEnd.{WorkerEnd}
use Rattle.call_worker.specs.declared.worker.Turn.{Turn}
use Rattle.call_worker.specs.States.{WorkerState, OfficeState, with_input}
use Rattle.call_worker.specs.Giving.{IsGiven}
use Rattle.call_worker.specs.Turns.{Reports, no_reports, reports_left, IsTurn, AreTurns, inputs_of_turns}
use Rattle.call_worker.specs.Ending.{IsEnd}
use Rattle.call_worker.specs.Closing.{AreEnds}
use Rattle.storms.specs.declared.trip.Trip.{Trip}
use Rattle.storms.specs.declared.outcome.Figures.{Figures}
use Rattle.storms.specs.Outcomes.{DidAll, IsAsked, AreFigures}
use Rattle.storms.specs.Openings.{Has, IsOpening, IsGivenToOpen, AreGivenToOpen, Keeps, AreLeftBy}

module _ {X : Type 0} where
  pub has_left : (P : X → Type 0) (xs ys : List X) → Has P xs → Has P (xs ++ ys)
  has_left P [] ys h = absurd h
  has_left P (x ∷ xs) ys (inl p) = inl p
  has_left P (x ∷ xs) ys (inr h) = inr (has_left P xs ys h)

  pub has_right : (P : X → Type 0) (xs ys : List X) → Has P ys → Has P (xs ++ ys)
  has_right P [] ys h = h
  has_right P (x ∷ xs) ys h = inr (has_right P xs ys h)

  -- one at a place has become another
  pub has_changed : (P : X → Type 0) (xs : List X) (i : ℕ) (d y : X) → (P (get_or xs i d) → P y) → Has P xs → Has P (set xs i y)
  has_changed P [] i d y f h = absurd h
  has_changed P (x ∷ xs) zero d y f (inl p) = inl (f p)
  has_changed P (x ∷ xs) zero d y f (inr h) = inr h
  has_changed P (x ∷ xs) (suc i) d y f (inl p) = inl p
  has_changed P (x ∷ xs) (suc i) d y f (inr h) = inr (has_changed P xs i d y f h)

  pub has_set : (P : X → Type 0) (xs : List X) (i : ℕ) (y : X) → i < length xs → P y → Has P (set xs i y)
  has_set P [] i y lt p = absurd (omega (arith, lt))
  has_set P (x ∷ xs) zero y lt p = inl p
  has_set P (x ∷ xs) (suc i) y lt p = inr (has_set P xs i y (omega (arith, lt)) p)

  -- the one at a place was changed by a function
  pub has_still : (P : X → Type 0) (f : X → X) → ((x : X) → P x → P (f x)) → (xs ys : List X) (i : ℕ) → ((d : X) → ys ≡ set xs i (f (get_or xs i d))) → Has P xs → Has P ys
  has_still P f grow [] ys i e h = absurd h
  has_still P f grow (x ∷ xs) ys i e h = subst (λ (l : List X). Has P l) (sym (e x)) (has_changed P (x ∷ xs) i x (f (get_or (x ∷ xs) i x)) (grow (get_or (x ∷ xs) i x)) h)

  pub has_now : (P : X → Type 0) (f : X → X) → ((x : X) → P (f x)) → (xs ys : List X) (i : ℕ) → i < length xs → ((d : X) → ys ≡ set xs i (f (get_or xs i d))) → Has P ys
  has_now P f made [] ys i lt e = absurd (omega (arith, lt))
  has_now P f made (x ∷ xs) ys i lt e = subst (λ (l : List X). Has P l) (sym (e x)) (has_set P (x ∷ xs) i (f (get_or (x ∷ xs) i x)) lt (made (get_or (x ∷ xs) i x)))

module _ {L A : Type 0} where
  -- of an office that was given one input more
  pub keeps_given : (input : Inbound A) (old new : OfficeState L A) → IsGiven input old new → Keeps old new
  unfolding Keeps IsGivenToOpen
  keeps_given input old new is call chan h =
      has_still (λ (w : WorkerState L A). Has (IsOpening call chan) w.given) (with_input input) (λ w p. has_left (IsOpening call chan) w.given (input ∷ []) p) old.workers new.workers is.worker is.gives.1 h

  pub given_now : (input : Inbound A) (old new : OfficeState L A) → IsGiven input old new → (call : ℕ) (chan : ChanId) → IsOpening call chan input → IsGivenToOpen new call chan
  unfolding IsGivenToOpen
  given_now input old new is call chan opens =
      has_now (λ (w : WorkerState L A). Has (IsOpening call chan) w.given) (with_input input) (λ w. has_right (IsOpening call chan) w.given (input ∷ []) (inl opens)) old.workers new.workers is.worker is.gives.0 is.gives.1

  pub keeps_same : (old new : OfficeState L A) → new.workers ≡ old.workers → Keeps old new
  unfolding Keeps IsGivenToOpen
  keeps_same old new same call chan h = subst (λ (ws : List (WorkerState L A)). Has (λ worker. Has (IsOpening call chan) worker.given) ws) (sym same) h

  pub keeps_still : (office : OfficeState L A) → Keeps office office
  unfolding Keeps
  keeps_still office call chan h = h

  pub keeps_on : (a b c : OfficeState L A) → Keeps a b → Keeps b c → Keeps a c
  unfolding Keeps
  keeps_on a b c f g call chan h = g call chan (f call chan h)

  pub keeps_all : (a b : OfficeState L A) (trips : List Trip) → Keeps a b → AreGivenToOpen a trips → AreGivenToOpen b trips
  unfolding Keeps
  keeps_all a b trips f all = All-weaker (λ trip. IsGivenToOpen a trip.call trip.from) (λ trip. IsGivenToOpen b trip.call trip.from) (λ trip h. f trip.call trip.from h) trips all

-- the entry is of the event that opens the call
abbrev pub Asks-it : ℕ → ChanId → Entry → Type 0
Asks-it call chan entry = entry.0 ≡ Open call chan

-- the row of such a line, followed to its end, asks so
pub row_asks : (call : ℕ) (chan : ChanId) (steps : List Step) → Leads (open_plan call chan) steps Ends → Has (Asks-it call chan) (entries_of steps)
unfolding open_plan once_done
row_asks call chan [] l = let e : Readies (ForMessages 1) (Asks (Open call chan) (if_done (opened_plan chan))) ≡ Ends = l in absurd (cc)
row_asks call chan (s ∷ []) l =
    let a : l.0 ≡ Asks (Open call chan) (if_done (opened_plan chan)) = l.1.1 in
    let b : l.0 ≡ Ends = l.2 in
    absurd (cc)
row_asks call chan (s ∷ u ∷ t) l =
    let e : l.0 ≡ Asks (Open call chan) (if_done (opened_plan chan)) = l.1.1 in
    let m : Moves (Asks (Open call chan) (if_done (opened_plan chan))) u l.2.0 = subst (λ (p : Plan). Moves p u l.2.0) e l.2.1 in
    has_right (Asks-it call chan) (entries_in s) _ (has_left (Asks-it call chan) (entries_in u) _ (subst (λ (v : Step). Has (Asks-it call chan) (entries_in v)) (sym m.1) (inl refl)))

module _ {A : Type 0} where
  turn_asks : (site : SiteView) (reports : Reports) (input : Inbound A) (ok : Bool) (steps : List Step) (call : ℕ) (chan : ChanId) → IsOpening call chan input → ok ≡ true → IsTurn site reports input ok steps → Has (Asks-it call chan) (entries_of steps)
  turn_asks site reports input true steps call chan is well (inl f) =
      let row : f.plan ≡ open_plan call chan = subst (λ (i : Inbound A). IsRow site reports i f.plan) is f.row in
      row_asks call chan steps (subst (λ (p : Plan). Leads p steps Ends) row f.leads)
  turn_asks site reports input false steps call chan is well f = absurd (true≢false (sym well))
  turn_asks site reports input true steps call chan is well (inr p) = absurd (true≢false p.ended)

  turns_ask : (site : SiteView) (reports : Reports) (before : ℕ) (ts : List (Turn A)) (steps : List Step) (call : ℕ) (chan : ChanId) → AreTurns site reports before ts steps → All (λ t. t.ok ≡ true) ts → Has (IsOpening call chan) (inputs_of_turns ts) → Has (Asks-it call chan) (entries_of steps)
  turns_ask site reports before [] steps call chan f ok h = absurd h
  turns_ask site reports before (t ∷ ts) steps call chan f ok (inl is) =
      let here = turn_asks site reports t.input t.ok f.0 call chan is (All-head (λ t. t.ok ≡ true) t ts ok) f.3 in
      subst (λ (l : List Entry). Has (Asks-it call chan) l) (sym (ap entries_of f.2 ∙ entries_of-append f.0 f.1)) (has_left (Asks-it call chan) (entries_of f.0) (entries_of f.1) here)
  turns_ask site reports before (t ∷ ts) steps call chan f ok (inr h) =
      let later = turns_ask site (reports_left f.0 reports) t.upto ts f.1 call chan f.5 (All-tail (λ t. t.ok ≡ true) t ts ok) h in
      subst (λ (l : List Entry). Has (Asks-it call chan) l) (sym (ap entries_of f.2 ∙ entries_of-append f.0 f.1)) (has_right (Asks-it call chan) (entries_of f.0) (entries_of f.1) later)

receipts_ask : (call : ℕ) (chan : ChanId) (receipts : List Receipt) → Has (Asks-it call chan) (receipted receipts) → Has (λ r. r.event ≡ Open call chan) receipts
receipts_ask call chan [] h = absurd h
receipts_ask call chan (r ∷ rs) (inl is) = inl is
receipts_ask call chan (r ∷ rs) (inr h) = inr (receipts_ask call chan rs h)

module _ {L A : Type 0} where
  worker_asks : (passed : L → List Sent) (refused : L → ℕ) (w : WorkerState L A) (e : WorkerEnd L A) (call : ℕ) (chan : ChanId) → IsEnd passed refused w e → DidAll refused e → Has (IsOpening call chan) w.given → Has (λ r. r.event ≡ Open call chan) e.receipts.items
  worker_asks passed refused w e call chan is did h =
      let rest : List (Inbound A) = is.taken.0 in
      let parts : w.given ≡ inputs_of_turns e.taken.items ++ rest = is.taken.1 in
      let taken : vec_len e.taken ≡ length e.taken.items = search rules in
      let given : vec_len e.given ≡ length e.given.items = search rules in
      let long : length w.given ≡ length (inputs_of_turns e.taken.items) + length rest = ap (λ l. length l) parts ∙ length-append (inputs_of_turns e.taken.items) rest in
      let none : length rest ≡ 0 = omega (arith, taken, given, did.took, long, ap (λ l. length l) is.given, length-map e.taken.items (λ (t : Turn A). t.input)) in
      let all : w.given ≡ inputs_of_turns e.taken.items = parts ∙ (ap (λ l. inputs_of_turns e.taken.items ++ l) (nil_from_length rest none) ∙ append-nil (inputs_of_turns e.taken.items)) in
      let asked = turns_ask w.site no_reports 0 e.taken.items is.work.steps call chan is.work.turns did.ok (subst (λ (l : List (Inbound A)). Has (IsOpening call chan) l) all h) in
      receipts_ask call chan e.receipts.items (subst (λ (l : List Entry). Has (Asks-it call chan) l) (sym is.work.entries) asked)

  -- each worker did all that it was given
  workers_ask : (passed : L → List Sent) (refused : L → ℕ) (ws : List (WorkerState L A)) (es : List (WorkerEnd L A)) (call : ℕ) (chan : ChanId) → AreEnds passed refused ws es → All (DidAll refused) es → Has (λ worker. Has (IsOpening call chan) worker.given) ws → Has (λ r. r.event ≡ Open call chan) (flat_map (λ e. e.receipts.items) es)
  workers_ask passed refused [] es call chan a did h = absurd h
  workers_ask passed refused (w ∷ ws) [] call chan a did h = absurd a
  workers_ask passed refused (w ∷ ws) (e ∷ es) call chan a did (inl h) = has_left _ e.receipts.items _ (worker_asks passed refused w e call chan a.0 (All-head (DidAll refused) e es did) h)
  workers_ask passed refused (w ∷ ws) (e ∷ es) call chan a did (inr h) = has_right _ e.receipts.items _ (workers_ask passed refused ws es call chan a.1 (All-tail (DidAll refused) e es did) h)

-- a receipt is an entry of the history
history_asks : (history : List Entry) (receipts : List Receipt) (call : ℕ) (chan : ChanId) → StandsAt history receipts (length receipts) → Has (λ r. r.event ≡ Open call chan) receipts → IsAsked history call chan
history_asks history [] call chan stand h = absurd h
history_asks history (r ∷ rs) call chan stand (inl is) = (r.place, r.reply, stand 0 r (omega arith) ∙ ap (λ (e : Event). Some (e, r.reply)) is)
history_asks history (r ∷ rs) call chan stand (inr h) = history_asks history rs call chan (λ k d lt. stand (suc k) d (omega (arith, lt))) h

module _ {L A : Type 0} where
  -- what an office was given to open was asked of the desk whose history its receipts are
  pub office_asks : (passed : L → List Sent) (refused : L → ℕ) (office : OfficeState L A) (ends : List (WorkerEnd L A)) (history : List Entry) (front : List Receipt)
      → AreEnds passed refused office.workers ends → All (DidAll refused) ends → StandsAt history (front ++ flat_map (λ e. e.receipts.items) ends) (length (front ++ flat_map (λ e. e.receipts.items) ends))
      → (call : ℕ) (chan : ChanId) → IsGivenToOpen office call chan → IsAsked history call chan
  unfolding IsGivenToOpen
  office_asks passed refused office ends history front a did stand call chan h =
      history_asks history (front ++ flat_map (λ e. e.receipts.items) ends) call chan stand (has_right _ front (flat_map (λ e. e.receipts.items) ends) (workers_ask passed refused office.workers ends call chan a did h))

  -- the figures that it left, where it was given the calls of these trips to open
  pub figures_of_trips : (office : OfficeState L A) (opening : State) (trips : List Trip) (figures : Figures) → office.opening ≡ opening → AreGivenToOpen office trips → AreLeftBy office figures → AreFigures opening trips figures
  figures_of_trips office opening trips figures same all left = record {
    desk = left.desk;
    opens = left.opens ∙ same;
    legal = left.legal;
    asked = All-weaker (λ trip. IsGivenToOpen office trip.call trip.from) (λ trip. IsAsked left.desk.history trip.call trip.from) (λ trip h. left.asked trip.call trip.from h) trips all;
    told = left.told;
  }
