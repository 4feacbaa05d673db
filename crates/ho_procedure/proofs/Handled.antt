-- What is handled where nothing was owed before.
use Rattle.std.proofs.Common.{◌≡◌, ℕ, inl, inr, List, [], ◌++◌, Result, Ok, Err, OnOk, IfErr, sym, ◌∙◌, ap, subst}
use Rattle.radio_desk.specs.declared.desk.DeskFault.{DeskFault}
use Rattle.radio_desk.specs.declared.desk.DeskFault.TheVariants as fault
use Rattle.ho_procedure.specs.Claims.{Entry, Claim, UnknownReceipt}
use Rattle.ho_procedure.specs.Sent.{Sent}
use Rattle.ho_procedure.specs.declared.work.Work.{Work}
use Rattle.cell_table.specs.Site.{SiteView}
use Rattle.exchange.specs.declared.Inbound.{Inbound}
use Rattle.exchange.specs.declared.Link.{Link}
use Rattle.exchange.specs.declared.Bad.{Bad}
use Rattle.ho_procedure.specs.declared.following.Stop.{Stop}
use Rattle.ho_procedure.specs.declared.following.Stop.TheVariants as stop
use Rattle.ho_procedure.specs.Plan.{Plan, Ends, Until, At, AtMemory, AtDesk, messages_of}
use Rattle.ho_procedure.specs.Going.{Goes, last_reports, stops_at}
use Rattle.ho_procedure.specs.Following.{Stopped, StopsInRow, IsStopFor}
use Rattle.ho_procedure.specs.Handling.{Handles, StopsForMemory, StopsAtDesk, StopsWith, IsRow, IsUndecoded, KeepsOctets}

-- a row that a fault of the desk, or of memory, stopped
pub stopped : {D A : Type 0} (log : D → List Entry) (says : D → List Entry → Claim → Type 0) (w : Work D A) (IsRow : Plan → Type 0) (CantBeRead : Link → Bad → Type 0) (MayRefuse : Type 0) (w' : Work D A) (p : Plan) (f : DeskFault) (s : Stop)
    → IsStopFor f s → IsRow p → Goes log says w p w' (stops_at f) → Stopped log says w IsRow CantBeRead MayRefuse w' s
unfolding stops_at
stopped log says w IsRow CantBeRead MayRefuse w' p (fault.Foreign place) s is row goes = subst (Stopped log says w IsRow CantBeRead MayRefuse w') (sym is) (p, row, goes)
stopped log says w IsRow CantBeRead MayRefuse w' p fault.NoMemory s is row goes = subst (Stopped log says w IsRow CantBeRead MayRefuse w') (sym is) (inl (p, row, goes))

pub handled : {D A : Type 0} (log : D → List Entry) (says : D → List Entry → Claim → Type 0) (w w' : Work D A) (p : Plan) (u : Until) (out : List Sent)
    → Goes log says w p w' u → w.owed.items ≡ [] → out ≡ w'.owed.items → Handles log says w.view w.windows p w'.view w'.windows out u
unfolding Goes
handled log says w w' p u out f none is = record {
  steps = f.steps;
  leads = f.leads;
  entries = f.entries;
  messages = is ∙ f.messages ∙ ap (λ x. x ++ messages_of f.steps) none;
  choices = f.choices;
  reports = f.reports;
  stop = f.stop;
}

pub kept : {D A : Type 0} (log : D → List Entry) (says : D → List Entry → Claim → Type 0) (w w' : Work D A) (p : Plan) (u : Until)
    → Goes log says w p w' u → (es : List Entry) → (claim : Claim) → says w'.view es claim → says w.view es claim
unfolding Goes
kept log says w w' p u f = f.said

pub width_kept : {D A : Type 0} (log : D → List Entry) (says : D → List Entry → Claim → Type 0) (w w' : Work D A) (p : Plan) (u : Until)
    → Goes log says w p w' u → w'.windows.width ≡ w.windows.width
unfolding Goes
width_kept log says w w' p u f = f.width

-- a row that was stopped, since the input can't be read, leaves view and windows as they were
pub refused : {A D : Type 0} (log : D → List Entry) (says : D → List Entry → Claim → Type 0) (w : Work D A) (IsRow : Plan → Type 0) (CantBeRead : Link → Bad → Type 0) (MayRefuse : Type 0) (w' : Work D A) (l : Link) (b : Bad)
    → Stopped log says w IsRow CantBeRead MayRefuse w' (stop.Undecoded l b) → (w'.view ≡ w.view) × (w'.windows ≡ w.windows)
refused log says w IsRow CantBeRead MayRefuse w' l b f = (ap (λ x. x.view) f.1, ap (λ x. x.windows) f.1)

-- memory was refused
pub stops_for_memory : {A D : Type 0} (log : D → List Entry) (says : D → List Entry → Claim → Type 0) (site : SiteView) (w w' : Work D A) (input : Inbound A) (out : List Sent)
    → Stopped log says w (IsRow site (last_reports w.windows) input) (IsUndecoded input) (KeepsOctets input) w' stop.NoMemory → w.owed.items ≡ [] → out ≡ w'.owed.items
    → StopsForMemory log says site w.view w.windows input w'.view w'.windows out
stops_for_memory log says site w w' input out (inl f) none owed = inl (f.0, f.1, handled log says w w' f.0 AtMemory out f.2 none owed)
stops_for_memory log says site w w' input out (inr f) none owed = inr (f.0, ap (λ x. x.view) f.1, ap (λ x. x.windows) f.1, owed ∙ ap (λ x. x.owed.items) f.1 ∙ none)

-- the desk doesn't know the view's last receipt
pub stops_at_desk : {A D : Type 0} (log : D → List Entry) (says : D → List Entry → Claim → Type 0) (site : SiteView) (w w' : Work D A) (input : Inbound A) (place : ℕ) (out : List Sent)
    → Stopped log says w (IsRow site (last_reports w.windows) input) (IsUndecoded input) (KeepsOctets input) w' (stop.Desk place) → w.owed.items ≡ [] → out ≡ w'.owed.items
    → StopsAtDesk log says site w.view w.windows input w'.view w'.windows out place
stops_at_desk log says site w w' input place out f none owed = (f.0, f.1, handled log says w w' f.0 (AtDesk place) out f.2 none owed)

pub stops_unknown : {A D : Type 0} (log : D → List Entry) (says : D → List Entry → Claim → Type 0) (w : Work D A) (IsRow : Plan → Type 0) (w' : Work D A) (place : ℕ)
    → StopsInRow log says w IsRow w' (AtDesk place) → says w.view (log w'.view) (UnknownReceipt place)
unfolding Goes
stops_unknown log says w IsRow w' place f = f.2.stop

pub stopped_kept : {A D : Type 0} (log : D → List Entry) (says : D → List Entry → Claim → Type 0) (w : Work D A) (IsRow : Plan → Type 0) (CantBeRead : Link → Bad → Type 0) (MayRefuse : Type 0) (w' : Work D A) (s : Stop)
    → Stopped log says w IsRow CantBeRead MayRefuse w' s → (es : List Entry) → (claim : Claim) → says w'.view es claim → says w.view es claim
stopped_kept {A} {D} log says w IsRow CantBeRead MayRefuse w' (stop.Undecoded l b) f es claim h = subst (λ x. says x.view es claim) f.1 h
stopped_kept {A} {D} log says w IsRow CantBeRead MayRefuse w' stop.NoMemory (inl f) es claim h = kept log says w w' f.0 AtMemory f.2 es claim h
stopped_kept {A} {D} log says w IsRow CantBeRead MayRefuse w' stop.NoMemory (inr f) es claim h = subst (λ x. says x.view es claim) f.1 h
stopped_kept {A} {D} log says w IsRow CantBeRead MayRefuse w' (stop.Desk place) f es claim h = kept log says w w' f.0 (AtDesk place) f.2 es claim h

pub stopped_width : {A D : Type 0} (log : D → List Entry) (says : D → List Entry → Claim → Type 0) (w : Work D A) (IsRow : Plan → Type 0) (CantBeRead : Link → Bad → Type 0) (MayRefuse : Type 0) (w' : Work D A) (s : Stop)
    → Stopped log says w IsRow CantBeRead MayRefuse w' s → w'.windows.width ≡ w.windows.width
stopped_width log says w IsRow CantBeRead MayRefuse w' (stop.Undecoded l b) f = ap (λ x. x.windows.width) f.1
stopped_width log says w IsRow CantBeRead MayRefuse w' stop.NoMemory (inl f) = width_kept log says w w' f.0 AtMemory f.2
stopped_width log says w IsRow CantBeRead MayRefuse w' stop.NoMemory (inr f) = ap (λ x. x.windows.width) f.1
stopped_width log says w IsRow CantBeRead MayRefuse w' (stop.Desk place) f = width_kept log says w w' f.0 (AtDesk place) f.2

pub follow_kept : {A D X : Type 0} (log : D → List Entry) (says : D → List Entry → Claim → Type 0) (w w' : Work D A) (IsRow : Plan → Type 0) (CantBeRead : Link → Bad → Type 0) (MayRefuse : Type 0) (result : Result X Stop)
    → OnOk result ((p : Plan) × IsRow p × Goes log says w p w' (At Ends)) → IfErr result (Stopped log says w IsRow CantBeRead MayRefuse w')
    → (es : List Entry) → (claim : Claim) → says w'.view es claim → says w.view es claim
follow_kept log says w w' IsRow CantBeRead MayRefuse (Ok x) ok err es claim h = kept log says w w' ok.0 (At Ends) ok.2 es claim h
follow_kept log says w w' IsRow CantBeRead MayRefuse (Err s) ok err es claim h = stopped_kept log says w IsRow CantBeRead MayRefuse w' s err es claim h

-- what the handling of an input comes to, whatever it ends by
pub handled_row : {D A X : Type 0} (log : D → List Entry) (says : D → List Entry → Claim → Type 0) (w w' : Work D A) (IsRow : Plan → Type 0) (out : List Sent) (result : Result X Stop)
    → OnOk result ((p : Plan) × IsRow p × Goes log says w p w' (At Ends)) → w.owed.items ≡ [] → out ≡ w'.owed.items
    → OnOk result ((p : Plan) × IsRow p × Handles log says w.view w.windows p w'.view w'.windows out (At Ends))
handled_row log says w w' IsRow out (Ok x) ok none is = (ok.0, ok.1, handled log says w w' ok.0 (At Ends) out ok.2 none is)
handled_row log says w w' IsRow out (Err s) ok none is = tt

pub stopped_with : {A D X : Type 0} (log : D → List Entry) (says : D → List Entry → Claim → Type 0) (site : SiteView) (w w' : Work D A) (input : Inbound A) (out : List Sent) (result : Result X Stop)
    → IfErr result (Stopped log says w (IsRow site (last_reports w.windows) input) (IsUndecoded input) (KeepsOctets input) w') → w.owed.items ≡ [] → out ≡ w'.owed.items
    → IfErr result (λ s. StopsWith log says site w.view w.windows input w'.view w'.windows out s)
stopped_with log says site w w' input out (Ok x) f none owed = tt
stopped_with log says site w w' input out (Err (stop.Undecoded l b)) f none owed = (ap (λ x. x.view) f.1, ap (λ x. x.windows) f.1, owed ∙ ap (λ x. x.owed.items) f.1 ∙ none)
stopped_with log says site w w' input out (Err stop.NoMemory) f none owed = stops_for_memory log says site w w' input out f none owed
stopped_with log says site w w' input out (Err (stop.Desk place)) f none owed = stops_at_desk log says site w w' input place out f none owed

pub stopped_unread : {A D X : Type 0} (log : D → List Entry) (says : D → List Entry → Claim → Type 0) (w w' : Work D A) (IsRow : Plan → Type 0) (CantBeRead : Link → Bad → Type 0) (MayRefuse : Type 0) (result : Result X Stop)
    → IfErr result (Stopped log says w IsRow CantBeRead MayRefuse w') → (l : Link) → (b : Bad) → result ≡ Err (stop.Undecoded l b) → CantBeRead l b
stopped_unread log says w w' IsRow CantBeRead MayRefuse result f l b is = (subst (λ r. IfErr r (Stopped log says w IsRow CantBeRead MayRefuse w')) is f).0

pub stopped_foreign : {A D X : Type 0} (log : D → List Entry) (says : D → List Entry → Claim → Type 0) (w w' : Work D A) (IsRow : Plan → Type 0) (CantBeRead : Link → Bad → Type 0) (MayRefuse : Type 0) (result : Result X Stop)
    → IfErr result (Stopped log says w IsRow CantBeRead MayRefuse w') → IfErr result (λ s. (place : ℕ) → s ≡ stop.Desk place → says w.view (log w'.view) (UnknownReceipt place))
stopped_foreign log says w w' IsRow CantBeRead MayRefuse (Ok x) f = tt
stopped_foreign log says w w' IsRow CantBeRead MayRefuse (Err s) f = λ place is. stops_unknown log says w IsRow w' place (subst (Stopped log says w IsRow CantBeRead MayRefuse w') is f)
