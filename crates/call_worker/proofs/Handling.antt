-- What a controller's answer says of a turn.
use Rattle.std.proofs.Common.{◌≡◌, ◌⊎◌, ℕ, inl, inr, List, [], Bool, false, refl, ap, sym, ◌∙◌}
use Rattle.std.proofs.lemmas.List.{append-nil}
use Rattle.cell_table.specs.Site.{SiteView}
use Rattle.exchange.specs.declared.Inbound.{Inbound}
use Rattle.exchange.specs.declared.Link.{Link}
use Rattle.exchange.specs.declared.Bad.{Bad}
use Rattle.ho_procedure.specs.Claims.{Entry, Claim}
use Rattle.ho_procedure.specs.Sent.{Sent}
use Rattle.ho_procedure.specs.Windows.{Kept}
use Rattle.ho_procedure.specs.Going.{last_reports}
use Rattle.ho_procedure.specs.Plan.{Plan}
use Rattle.ho_procedure.specs.Handling.{IsRow, IsUndecoded, KeepsOctets, Handles, StopsForMemory, StopsAtDesk}
use Rattle.ho_procedure.proofs.Going.{asking_takes}
use Rattle.call_worker.specs.Turns.{end_of, Took}

module _ {A D : Type 0} (log : D → List Entry) (says : D → List Entry → Claim → Type 0) where
  pub took_row : (site : SiteView) (v v' : D) (w w' : Kept) (input : Inbound A) (out : List Sent) (ok : Bool) (p : Plan)
      → IsRow site (last_reports w) input p → Handles log says v w p v' w' out (end_of ok) → Took site (log v) (last_reports w) input ok (log v') (last_reports w') out
  took_row site v v' w w' input out ok p row h = record {
    steps = h.steps;
    turn = inl (record { plan = p; row = row; leads = h.leads });
    entries = h.entries;
    reports = h.reports;
    messages = h.messages;
  }

  pub took_none : (site : SiteView) (v v' : D) (w w' : Kept) (input : Inbound A) (out : List Sent)
      → v' ≡ v → w' ≡ w → out ≡ [] → ((link : Link) × (bad : Bad) × IsUndecoded input link bad) ⊎ KeepsOctets input → Took site (log v) (last_reports w) input false (log v') (last_reports w') out
  took_none site v v' w w' input out a b c why = record {
    steps = [];
    turn = inr (record { ended = refl; nothing = refl; why = why });
    entries = ap log a ∙ sym (append-nil (log v));
    reports = λ call. ap (λ x. last_reports x call) b;
    messages = c;
  }

  pub took_memory : (site : SiteView) (v v' : D) (w w' : Kept) (input : Inbound A) (out : List Sent)
      → StopsForMemory log says site v w input v' w' out → Took site (log v) (last_reports w) input false (log v') (last_reports w') out
  took_memory site v v' w w' input out (inl s) = took_row site v v' w w' input out false s.0 s.1 s.2
  took_memory site v v' w w' input out (inr s) = took_none site v v' w w' input out s.1 s.2 s.3 (inr s.0)

  pub took_desk : (site : SiteView) (v v' : D) (w w' : Kept) (input : Inbound A) (out : List Sent) (place : ℕ)
      → StopsAtDesk log says site v w input v' w' out place → Took site (log v) (last_reports w) input false (log v') (last_reports w') out
  took_desk site v v' w w' input out place s = let h = s.2 in record {
    steps = h.steps;
    turn = inl (record { plan = s.0; row = s.1; leads = (h.leads.0, h.leads.1, asking_takes h.leads.0 h.leads.2) });
    entries = h.entries;
    reports = h.reports;
    messages = h.messages;
  }
