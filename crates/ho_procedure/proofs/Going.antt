-- Steps that are put together, and what each comes to.
use Rattle.std.proofs.Common.{◌≡◌, ℕ, List, [], ◌∷◌, ◌++◌, refl, sym, ◌∙◌, ap, subst, append_assoc, append-nil, inl, inr}
use Rattle.channel_fsm.specs.declared.ChanId.{ChanId}
use Rattle.timeslots.specs.declared.Rate.{Rate}
use Rattle.timeslots.specs.Parts.{rate_of}
use Rattle.cell_table.specs.Site.{SiteView}
use Rattle.rr_elements.specs.MeasResults.{Results}
use Rattle.ho_candidates.specs.declared.listed.Candidate.{Candidate}
use Rattle.ho_candidates.specs.Candidates.{SomeCandidate}
use Rattle.radio_book.specs.declared.event.Kind.{Kind}
use Rattle.radio_book.specs.declared.event.Event.{Event}
use Rattle.radio_book.specs.declared.event.Event.TheVariants.{Open, Take, Reserve}
use Rattle.radio_book.specs.declared.event.Reply.{Reply}
use Rattle.radio_book.specs.Kinds.{is_accepted}
use Rattle.radio_desk.specs.declared.desk.DeskFault.{DeskFault}
use Rattle.radio_desk.specs.declared.desk.DeskFault.TheVariants.{Foreign, NoMemory}
use Rattle.ho_procedure.specs.Claims.{Entry, Claim, NoneFree, Chosen, UnknownReceipt, MayBeRefused, TakeMayBeRefused, IsForeign, IsNoMemory}
use Rattle.ho_procedure.specs.Sent.{Sent}
use Rattle.ho_procedure.specs.Plan.{Room, Plan, Ends, Readies, Asks, Takes, Opens, Reserves, Sends, Notes, Ranks, Step, Readied, Asked, Chose, FoundNone, Posted, Noted, Ranked, AreCandidates, Moves, Leads, AsksDesk, TakesMemory, MayLack, Until, At, AtMemory, AtDesk, LeadsUntil, entries_in, entries_of, messages_in, messages_of, ChoiceIn, ChoicesAt, call_dropped, dropped_if, reports_by, reports_after}
use Rattle.ho_procedure.specs.declared.work.Work.{Work}
use Rattle.ho_procedure.specs.Going.{Run, Goes, Passes, MayStop, last_reports, stops_at}

-- traces that lead on may be put together
pub leads-append : (p q r : Plan) (t u : List Step) → Leads p t q → Leads q u r → Leads p (t ++ u) r
leads-append p q r [] u f g = let P : Plan → Type 0 = λ x. Leads x u r in subst P (sym f) g
leads-append p q r (s ∷ t) u f g = (f.0, f.1, leads-append f.0 q r t u f.2 g)

pub leads-until : (p q : Plan) (t u : List Step) (z : Until) → Leads p t q → LeadsUntil q u z → LeadsUntil p (t ++ u) z
leads-until p q t u (At r) f g = leads-append p q r t u f g
leads-until p q t u AtMemory f g = (g.0, leads-append p q g.0 t u f g.1, g.2)
leads-until p q t u (AtDesk place) f g = (g.0, leads-append p q g.0 t u f g.1, g.2)

pub entries_of-append : (t u : List Step) → entries_of (t ++ u) ≡ entries_of t ++ entries_of u
entries_of-append [] u = refl
entries_of-append (s ∷ t) u = ap (λ x. entries_in s ++ x) (entries_of-append t u) ∙ sym (append_assoc (entries_in s) (entries_of t) (entries_of u))

pub messages_of-append : (t u : List Step) → messages_of (t ++ u) ≡ messages_of t ++ messages_of u
messages_of-append [] u = refl
messages_of-append (s ∷ t) u = ap (λ x. messages_in s ++ x) (messages_of-append t u) ∙ sym (append_assoc (messages_in s) (messages_of t) (messages_of u))

pub reports_after-append : (call : ℕ) (t u : List Step) (reports : List Results) → reports_after call (t ++ u) reports ≡ reports_after call u (reports_after call t reports)
reports_after-append call [] u reports = refl
reports_after-append call (s ∷ t) u reports = reports_after-append call t u (reports_by call s reports)

-- what a later view says its earlier one would have said too
pub choice-said : (says says' : Claim → Type 0) (s : Step) → ((claim : Claim) → says' claim → says claim) → ChoiceIn says' s → ChoiceIn says s
choice-said says says' (Readied room) k f = tt
choice-said says says' (Asked e r) k f = tt
choice-said says says' (Chose e r) k f = k (Chosen e) f
choice-said says says' (FoundNone cell rate) k f = k (NoneFree cell rate) f
choice-said says says' (Posted m) k f = tt
choice-said says says' (Noted c reports) k f = tt
choice-said says says' (Ranked found) k f = tt

pub choices-said : (says says' : List Entry → Claim → Type 0) (log : List Entry) (u : List Step) → ((es : List Entry) → (claim : Claim) → says' es claim → says es claim) → ChoicesAt says' log u → ChoicesAt says log u
choices-said says says' log [] k g = tt
choices-said says says' log (s ∷ u) k g = (choice-said (says log) (says' log) s (k log) g.0, choices-said says says' (log ++ entries_in s) u k g.1)

pub lack-said : (says says' : Claim → Type 0) (p : Plan) → ((claim : Claim) → says' claim → says claim) → MayLack says' p → MayLack says p
lack-said says says' Ends k f = f
lack-said says says' (Readies room next) k f = tt
lack-said says says' (Asks e next) k f = k (MayBeRefused e) f
lack-said says says' (Takes c kind cell rate none next) k f = k (TakeMayBeRefused cell rate) f
lack-said says says' (Opens c cell rate none next) k f = k (TakeMayBeRefused cell rate) f
lack-said says says' (Reserves c next) k f = λ n. k (MayBeRefused (Reserve c n)) (f n)
lack-said says says' (Sends m next) k f = f
lack-said says says' (Notes c reports next) k f = f
lack-said says says' (Ranks site reports serving next) k f = f

pub stop-append : (says says' : Claim → Type 0) (p q : Plan) (t v : List Step) (u : Until) → ((claim : Claim) → says' claim → says claim) → Leads p t q → MayStop says' q v u → MayStop says p (t ++ v) u
stop-append says says' p q t v (At r) k f s = tt
stop-append says says' p q t v AtMemory k f s = (s.0, leads-append p q s.0 t v f s.1, lack-said says says' s.0 k s.2)
stop-append says says' p q t v (AtDesk place) k f s = k (UnknownReceipt place) s

pub choices-append : (says says' : List Entry → Claim → Type 0) (log log' : List Entry) (t u : List Step) → ((es : List Entry) → (claim : Claim) → says' es claim → says es claim)
    → log' ≡ log ++ entries_of t → ChoicesAt says log t → ChoicesAt says' log' u → ChoicesAt says log (t ++ u)
choices-append says says' log log' [] u k l f g = let P : List Entry → Type 0 = λ x. ChoicesAt says x u in subst P (l ∙ append-nil log) (choices-said says says' log' u k g)
choices-append says says' log log' (s ∷ t) u k l f g = (f.0, choices-append says says' (log ++ entries_in s) log' t u k (l ∙ sym (append_assoc log (entries_in s) (entries_of t))) f.1 g)

-- runs may be put together
pub joined : {D A : Type 0} {log : D → List Entry} {says : D → List Entry → Claim → Type 0} {w w' w'' : Work D A} {p q : Plan} {u : Until}
    → Run log says w p w' (At q) → Run log says w' q w'' u → Run log says w p w'' u
joined {D} {A} {log} {says} {w} {w'} {w''} {p} {q} {u} f g = record {
  steps = f.steps ++ g.steps;
  leads = leads-until p q f.steps g.steps u f.leads g.leads;
  entries = g.entries ∙ ap (λ x. x ++ entries_of g.steps) f.entries ∙ append_assoc (log w.view) (entries_of f.steps) (entries_of g.steps) ∙ ap (λ x. log w.view ++ x) (sym (entries_of-append f.steps g.steps));
  messages = g.messages ∙ ap (λ x. x ++ messages_of g.steps) f.messages ∙ append_assoc w.owed.items (messages_of f.steps) (messages_of g.steps) ∙ ap (λ x. w.owed.items ++ x) (sym (messages_of-append f.steps g.steps));
  choices = choices-append (says w.view) (says w'.view) (log w.view) (log w'.view) f.steps g.steps f.said f.entries f.choices g.choices;
  reports = λ call. g.reports call ∙ ap (λ x. reports_after call g.steps x) (f.reports call) ∙ sym (reports_after-append call f.steps g.steps (last_reports w.windows call));
  width = g.width ∙ f.width;
  said = λ es claim h. f.said es claim (g.said es claim h);
  stop = stop-append (says w.view (log w''.view)) (says w'.view (log w''.view)) p q f.steps g.steps u (f.said (log w''.view)) f.leads g.stop;
}

-- nothing is done
pub stays : {D A : Type 0} (log : D → List Entry) (says : D → List Entry → Claim → Type 0) (w : Work D A) (p q : Plan) → p ≡ q → Goes log says w p w (At q)
unfolding Goes
stays log says w p q e = record { steps = []; leads = e; entries = sym (append-nil (log w.view)); messages = sym (append-nil w.owed.items); choices = tt; reports = λ call. refl; width = refl; said = λ es claim h. h; stop = tt }

-- a step that asks the desk takes memory too
pub asking_takes : (p : Plan) → AsksDesk p → TakesMemory p
asking_takes Ends asks = asks
asking_takes (Readies room next) asks = absurd asks
asking_takes (Asks e next) asks = tt
asking_takes (Takes c k cell rate none next) asks = tt
asking_takes (Opens c cell rate none next) asks = tt
asking_takes (Reserves c next) asks = tt
asking_takes (Sends m next) asks = asks
asking_takes (Notes c reports next) asks = asks
asking_takes (Ranks site reports serving next) asks = absurd asks

-- nothing is done where the plan asks the desk next, and this fault comes
waits : {D A : Type 0} (log : D → List Entry) (says : D → List Entry → Claim → Type 0) (w w' : Work D A) (f : DeskFault) (p : Plan)
    → log w'.view ≡ log w.view → w'.owed.items ≡ w.owed.items → ((call : ℕ) → last_reports w'.windows call ≡ last_reports w.windows call) → w'.windows.width ≡ w.windows.width
    → ((es : List Entry) → (claim : Claim) → says w'.view es claim → says w.view es claim) → ((place : ℕ) → IsForeign f place → says w.view (log w.view) (UnknownReceipt place))
    → (IsNoMemory f → MayLack (says w.view (log w.view)) p) → AsksDesk p → Goes log says w p w' (stops_at f)
unfolding Goes stops_at
waits log says w w' (Foreign place) p l o n i k h m a = record { steps = []; leads = (p, refl, a); entries = l ∙ sym (append-nil (log w.view)); messages = o ∙ sym (append-nil w.owed.items); choices = tt; reports = n; width = i; said = k; stop = subst (λ es. says w.view es (UnknownReceipt place)) (sym l) (h place refl) }
waits log says w w' NoMemory p l o n i k h m a = record { steps = []; leads = (p, refl, asking_takes p a); entries = l ∙ sym (append-nil (log w.view)); messages = o ∙ sym (append-nil w.owed.items); choices = tt; reports = n; width = i; said = k; stop = (p, refl, subst (λ es. MayLack (says w.view es) p) (sym l) (m tt)) }

-- so where an event is asked
pub unasked : {D A : Type 0} (log : D → List Entry) (says : D → List Entry → Claim → Type 0) (w w' : Work D A) (f : DeskFault) (e : Event) (next : Reply → Plan)
    → log w'.view ≡ log w.view → w'.owed.items ≡ w.owed.items → ((call : ℕ) → last_reports w'.windows call ≡ last_reports w.windows call) → w'.windows.width ≡ w.windows.width
    → ((es : List Entry) → (claim : Claim) → says w'.view es claim → says w.view es claim) → ((place : ℕ) → IsForeign f place → says w.view (log w.view) (UnknownReceipt place))
    → (IsNoMemory f → says w.view (log w.view) (MayBeRefused e)) → Goes log says w (Asks e next) w' (stops_at f)
unasked log says w w' f e next l o n i k h m = waits log says w w' f (Asks e next) l o n i k h m tt

-- a channel taken
pub untaken : {D A : Type 0} (log : D → List Entry) (says : D → List Entry → Claim → Type 0) (w w' : Work D A) (f : DeskFault) (c : ℕ) (kind : Kind) (cell : ℕ) (rate : Rate) (none : Plan) (next : ChanId → Reply → Plan)
    → log w'.view ≡ log w.view → w'.owed.items ≡ w.owed.items → ((call : ℕ) → last_reports w'.windows call ≡ last_reports w.windows call) → w'.windows.width ≡ w.windows.width
    → ((es : List Entry) → (claim : Claim) → says w'.view es claim → says w.view es claim) → ((place : ℕ) → IsForeign f place → says w.view (log w.view) (UnknownReceipt place))
    → (IsNoMemory f → says w.view (log w.view) (TakeMayBeRefused cell rate)) → Goes log says w (Takes c kind cell rate none next) w' (stops_at f)
untaken log says w w' f c kind cell rate none next l o n i k h m = waits log says w w' f (Takes c kind cell rate none next) l o n i k h m tt

-- a call begun on a channel
pub unopened : {D A : Type 0} (log : D → List Entry) (says : D → List Entry → Claim → Type 0) (w w' : Work D A) (f : DeskFault) (c cell : ℕ) (rate : Rate) (none : Plan) (next : ChanId → Reply → Plan)
    → log w'.view ≡ log w.view → w'.owed.items ≡ w.owed.items → ((call : ℕ) → last_reports w'.windows call ≡ last_reports w.windows call) → w'.windows.width ≡ w.windows.width
    → ((es : List Entry) → (claim : Claim) → says w'.view es claim → says w.view es claim) → ((place : ℕ) → IsForeign f place → says w.view (log w.view) (UnknownReceipt place))
    → (IsNoMemory f → says w.view (log w.view) (TakeMayBeRefused cell rate)) → Goes log says w (Opens c cell rate none next) w' (stops_at f)
unopened log says w w' f c cell rate none next l o n i k h m = waits log says w w' f (Opens c cell rate none next) l o n i k h m tt

-- and a reference reserved
pub unreserved : {D A : Type 0} (log : D → List Entry) (says : D → List Entry → Claim → Type 0) (w w' : Work D A) (f : DeskFault) (c : ℕ) (next : ℕ → Reply → Plan)
    → log w'.view ≡ log w.view → w'.owed.items ≡ w.owed.items → ((call : ℕ) → last_reports w'.windows call ≡ last_reports w.windows call) → w'.windows.width ≡ w.windows.width
    → ((es : List Entry) → (claim : Claim) → says w'.view es claim → says w.view es claim) → ((place : ℕ) → IsForeign f place → says w.view (log w.view) (UnknownReceipt place))
    → (IsNoMemory f → (number : ℕ) → says w.view (log w.view) (MayBeRefused (Reserve c number))) → Goes log says w (Reserves c next) w' (stops_at f)
unreserved log says w w' f c next l o n i k h m = waits log says w w' f (Reserves c next) l o n i k h m tt

-- nothing is done where memory is refused for a step that needs no desk
lacks : {D A : Type 0} (log : D → List Entry) (says : D → List Entry → Claim → Type 0) (w w' : Work D A) (f : DeskFault) (p : Plan)
    → f ≡ NoMemory → TakesMemory p → MayLack (says w.view (log w.view)) p → w'.view ≡ w.view → w'.owed.items ≡ w.owed.items
    → ((call : ℕ) → last_reports w'.windows call ≡ last_reports w.windows call) → w'.windows.width ≡ w.windows.width → Goes log says w p w' (stops_at f)
unfolding Goes stops_at
lacks {D} log says w w' f p is t m v o n i =
    let here : Goes log says w p w' (stops_at NoMemory) = record { steps = []; leads = (p, refl, t); entries = ap log v ∙ sym (append-nil (log w.view)); messages = o ∙ sym (append-nil w.owed.items); choices = tt; reports = n; width = i; said = λ es claim h. let P : D → Type 0 = λ x. says x es claim in subst P v h; stop = (p, refl, subst (λ x. MayLack (says w.view (log x)) p) (sym v) m) } in
    subst (λ x. Goes log says w p w' (stops_at x)) (sym is) here

-- so where room is made
pub unready : {D A : Type 0} (log : D → List Entry) (says : D → List Entry → Claim → Type 0) (w w' : Work D A) (f : DeskFault) (room : Room) (next : Plan)
    → f ≡ NoMemory → w'.view ≡ w.view → w'.owed.items ≡ w.owed.items → ((call : ℕ) → last_reports w'.windows call ≡ last_reports w.windows call) → w'.windows.width ≡ w.windows.width
    → Goes log says w (Readies room next) w' (stops_at f)
unready log says w w' f room next is v o n i = lacks log says w w' f (Readies room next) is tt tt v o n i

-- and where there is some candidate
pub unranked : {D A : Type 0} (log : D → List Entry) (says : D → List Entry → Claim → Type 0) (w : Work D A) (f : DeskFault) (site : SiteView) (reports : List Results) (serving : ℕ) (next : List Candidate → Plan)
    → f ≡ NoMemory → SomeCandidate (record { reports = reports; width = site.handover.window }) site serving → Goes log says w (Ranks site reports serving next) w (stops_at f)
unranked log says w f site reports serving next is some = lacks log says w w f (Ranks site reports serving next) is some some refl refl (λ call. refl) refl

-- what was followed to a plan goes on from there
pub continues : {D A : Type 0} (log : D → List Entry) (says : D → List Entry → Claim → Type 0) (w w' : Work D A) (p q : Plan) → Goes log says w p w' (At q) → Passes log says w p w' q
unfolding Goes
continues log says w w' p q f w'' u g = joined f g

-- one step is done
pub moved : {D A : Type 0} (log : D → List Entry) (says : D → List Entry → Claim → Type 0) (w w' : Work D A) (p : Plan) (s : Step) (q : Plan)
    → Moves p s q → log w'.view ≡ log w.view ++ entries_in s → w'.owed.items ≡ w.owed.items ++ messages_in s → ChoiceIn (says w.view (log w.view)) s
    → ((call : ℕ) → last_reports w'.windows call ≡ reports_by call s (last_reports w.windows call)) → w'.windows.width ≡ w.windows.width
    → ((es : List Entry) → (claim : Claim) → says w'.view es claim → says w.view es claim) → Passes log says w p w' q
unfolding Goes
moved {D} {A} log says w w' p s q m l o c n i k w'' u g =
    let f : Run log says w p w' (At q) = record { steps = s ∷ []; leads = (q, m, refl); entries = l ∙ ap (λ x. log w.view ++ x) (sym (append-nil (entries_in s))); messages = o ∙ ap (λ x. w.owed.items ++ x) (sym (append-nil (messages_in s))); choices = (c, tt); reports = n; width = i; said = k; stop = tt } in
    joined f g

-- room is made
pub readied : {D A : Type 0} (log : D → List Entry) (says : D → List Entry → Claim → Type 0) (w w' : Work D A) (room : Room) (next : Plan)
    → w'.view ≡ w.view → w'.owed.items ≡ w.owed.items → ((call : ℕ) → last_reports w'.windows call ≡ last_reports w.windows call) → w'.windows.width ≡ w.windows.width
    → Passes log says w (Readies room next) w' next
readied {D} log says w w' room next v o n i =
    moved log says w w' (Readies room next) (Readied room) next (refl, refl) (ap log v ∙ sym (append-nil (log w.view))) (o ∙ sym (append-nil w.owed.items)) tt n i (λ es claim h. let P : D → Type 0 = λ x. says x es claim in subst P v h)

pub asked : {D A : Type 0} (log : D → List Entry) (says : D → List Entry → Claim → Type 0) (w w' : Work D A) (e : Event) (r : Reply) (next : Reply → Plan)
    → log w'.view ≡ log w.view ++ (e, r) ∷ [] → w'.owed.items ≡ w.owed.items
    → ((call : ℕ) → last_reports w'.windows call ≡ dropped_if (is_accepted r) (call_dropped e) call (last_reports w.windows call)) → w'.windows.width ≡ w.windows.width
    → ((es : List Entry) → (claim : Claim) → says w'.view es claim → says w.view es claim) → Passes log says w (Asks e next) w' (next r)
asked log says w w' e r next l o n i k = moved log says w w' (Asks e next) (Asked e r) (next r) (r, refl, refl) l (o ∙ sym (append-nil w.owed.items)) tt n i k

pub took : {D A : Type 0} (log : D → List Entry) (says : D → List Entry → Claim → Type 0) (w w' : Work D A) (c : ℕ) (kind : Kind) (cell : ℕ) (rate : Rate) (x : ChanId) (r : Reply) (none : Plan) (next : ChanId → Reply → Plan)
    → x.cell ≡ cell → rate_of x.sub ≡ rate → log w'.view ≡ log w.view ++ (Take c kind x, r) ∷ [] → says w.view (log w.view) (Chosen (Take c kind x)) → w'.owed ≡ w.owed → w'.windows ≡ w.windows
    → ((es : List Entry) → (claim : Claim) → says w'.view es claim → says w.view es claim) → Passes log says w (Takes c kind cell rate none next) w' (next x r)
took log says w w' c kind cell rate x r none next h is l m o n k =
    moved log says w w' (Takes c kind cell rate none next) (Chose (Take c kind x) r) (next x r) (inr (x, r, h, is, refl, refl)) l (ap (λ y. y.items) o ∙ sym (append-nil w.owed.items)) m (λ call. ap (λ y. last_reports y call) n) (ap (λ y. y.width) n) k

pub found_none : {D A : Type 0} (log : D → List Entry) (says : D → List Entry → Claim → Type 0) (w w' : Work D A) (c : ℕ) (kind : Kind) (cell : ℕ) (rate : Rate) (none : Plan) (next : ChanId → Reply → Plan)
    → says w.view (log w.view) (NoneFree cell rate) → log w'.view ≡ log w.view → w'.owed ≡ w.owed → w'.windows ≡ w.windows
    → ((es : List Entry) → (claim : Claim) → says w'.view es claim → says w.view es claim) → Passes log says w (Takes c kind cell rate none next) w' none
found_none log says w w' c kind cell rate none next m l o n k =
    moved log says w w' (Takes c kind cell rate none next) (FoundNone cell rate) none (inl (refl, refl)) (l ∙ sym (append-nil (log w.view))) (ap (λ y. y.items) o ∙ sym (append-nil w.owed.items)) m (λ call. ap (λ y. last_reports y call) n) (ap (λ y. y.width) n) k

pub began : {D A : Type 0} (log : D → List Entry) (says : D → List Entry → Claim → Type 0) (w w' : Work D A) (c cell : ℕ) (rate : Rate) (x : ChanId) (r : Reply) (none : Plan) (next : ChanId → Reply → Plan)
    → x.cell ≡ cell → rate_of x.sub ≡ rate → log w'.view ≡ log w.view ++ (Open c x, r) ∷ [] → says w.view (log w.view) (Chosen (Open c x)) → w'.owed ≡ w.owed
    → ((call : ℕ) → last_reports w'.windows call ≡ dropped_if (is_accepted r) (call_dropped (Open c x)) call (last_reports w.windows call)) → w'.windows.width ≡ w.windows.width
    → ((es : List Entry) → (claim : Claim) → says w'.view es claim → says w.view es claim) → Passes log says w (Opens c cell rate none next) w' (next x r)
began log says w w' c cell rate x r none next h is l m o n i k =
    moved log says w w' (Opens c cell rate none next) (Chose (Open c x) r) (next x r) (inr (x, r, h, is, refl, refl)) l (ap (λ y. y.items) o ∙ sym (append-nil w.owed.items)) m n i k

pub began_on_none : {D A : Type 0} (log : D → List Entry) (says : D → List Entry → Claim → Type 0) (w w' : Work D A) (c cell : ℕ) (rate : Rate) (none : Plan) (next : ChanId → Reply → Plan)
    → says w.view (log w.view) (NoneFree cell rate) → log w'.view ≡ log w.view → w'.owed ≡ w.owed → w'.windows ≡ w.windows
    → ((es : List Entry) → (claim : Claim) → says w'.view es claim → says w.view es claim) → Passes log says w (Opens c cell rate none next) w' none
began_on_none log says w w' c cell rate none next m l o n k =
    moved log says w w' (Opens c cell rate none next) (FoundNone cell rate) none (inl (refl, refl)) (l ∙ sym (append-nil (log w.view))) (ap (λ y. y.items) o ∙ sym (append-nil w.owed.items)) m (λ call. ap (λ y. last_reports y call) n) (ap (λ y. y.width) n) k

pub reserved : {D A : Type 0} (log : D → List Entry) (says : D → List Entry → Claim → Type 0) (w w' : Work D A) (c n : ℕ) (r : Reply) (next : ℕ → Reply → Plan)
    → log w'.view ≡ log w.view ++ (Reserve c n, r) ∷ [] → says w.view (log w.view) (Chosen (Reserve c n)) → w'.owed ≡ w.owed → w'.windows ≡ w.windows
    → ((es : List Entry) → (claim : Claim) → says w'.view es claim → says w.view es claim) → Passes log says w (Reserves c next) w' (next n r)
reserved log says w w' c n r next l m o s k =
    moved log says w w' (Reserves c next) (Chose (Reserve c n) r) (next n r) (n, r, refl, refl) l (ap (λ y. y.items) o ∙ sym (append-nil w.owed.items)) m (λ call. ap (λ y. last_reports y call) s) (ap (λ y. y.width) s) k

pub posted : {D A : Type 0} (log : D → List Entry) (says : D → List Entry → Claim → Type 0) (w w' : Work D A) (m : Sent) (next : Plan)
    → w'.view ≡ w.view → w'.owed.items ≡ w.owed.items ++ m ∷ [] → w'.windows ≡ w.windows → Passes log says w (Sends m next) w' next
posted {D} log says w w' m next v o n =
    moved log says w w' (Sends m next) (Posted m) next (refl, refl) (ap log v ∙ sym (append-nil (log w.view))) o tt (λ call. ap (λ y. last_reports y call) n) (ap (λ y. y.width) n) (λ es claim h. let P : D → Type 0 = λ x. says x es claim in subst P v h)

pub noted : {D A : Type 0} (log : D → List Entry) (says : D → List Entry → Claim → Type 0) (w w' : Work D A) (c : ℕ) (reports : List Results) (next : Plan)
    → w'.view ≡ w.view → w'.owed ≡ w.owed → ((call : ℕ) → last_reports w'.windows call ≡ reports_by call (Noted c reports) (last_reports w.windows call)) → w'.windows.width ≡ w.windows.width
    → Passes log says w (Notes c reports next) w' next
noted {D} log says w w' c reports next v o n i =
    moved log says w w' (Notes c reports next) (Noted c reports) next (refl, refl) (ap log v ∙ sym (append-nil (log w.view))) (ap (λ y. y.items) o ∙ sym (append-nil w.owed.items)) tt n i (λ es claim h. let P : D → Type 0 = λ x. says x es claim in subst P v h)

pub ranked : {D A : Type 0} (log : D → List Entry) (says : D → List Entry → Claim → Type 0) (w : Work D A) (site : SiteView) (reports : List Results) (serving : ℕ) (found : List Candidate) (next : List Candidate → Plan)
    → AreCandidates site reports serving found → Passes log says w (Ranks site reports serving next) w (next found)
ranked log says w site reports serving found next a =
    moved log says w w (Ranks site reports serving next) (Ranked found) (next found) (found, a, refl, refl) (sym (append-nil (log w.view))) (sym (append-nil w.owed.items)) tt (λ call. refl) refl (λ es claim h. h)
