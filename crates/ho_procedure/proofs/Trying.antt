-- Candidates that are tried in turn.
use Rattle.std.proofs.Common.{◌≡◌, ◌<◌, ℕ, suc, List, length, drop, get_or, sym, ap, subst}
use Rattle.std.proofs.Math.Seq.{drop-cons}
use Rattle.timeslots.specs.declared.Rate.{Rate}
use Rattle.cell_table.specs.Site.{SiteView}
use Rattle.ho_candidates.specs.declared.listed.Candidate.{Candidate}
use Rattle.ho_procedure.specs.Claims.{Entry, Claim}
use Rattle.ho_procedure.specs.declared.work.Work.{Work}
use Rattle.ho_procedure.specs.declared.work.Flow.{Flow}
use Rattle.ho_procedure.specs.declared.work.Flow.TheVariants.{Over}
use Rattle.ho_procedure.specs.Plan.{Plan, Ends, At}
use Rattle.ho_procedure.specs.Going.{Goes, Passes, then}
use Rattle.ho_procedure.specs.Procedure.{start_plan, try_plan}
use Rattle.ho_procedure.proofs.Going.{stays}

-- a part that is over ends the row, whatever would come behind it
pub ends_over : {D A : Type 0} (log : D → List Entry) (says : D → List Entry → Claim → Type 0) (w w' : Work D A) (part : Plan → Plan) (flow : Flow)
    → flow ≡ Over → ((tail : Plan) → Passes log says w (part tail) w' (then tail flow)) → (tail : Plan) → Goes log says w (part tail) w' (At Ends)
ends_over log says w w' part flow is goes tail = goes tail w' (At Ends) (stays log says w' (then tail flow) Ends (ap (λ c. then tail c) is))

-- the next candidate is the first of those that are left
pub tries_next : {D A : Type 0} (log : D → List Entry) (says : D → List Entry → Claim → Type 0) (w w' : Work D A) (site : SiteView) (call : ℕ) (rate : Rate) (candidates : List Candidate) (i : ℕ) (d : Candidate) → i < length candidates
    → Goes log says w (start_plan site call (get_or candidates i d).cell rate (try_plan site call rate (drop (suc i) candidates))) w' (At Ends) → Goes log says w (try_plan site call rate (drop i candidates)) w' (At Ends)
unfolding try_plan
tries_next log says w w' site call rate candidates i d within goes = subst (λ ks. Goes log says w (try_plan site call rate ks) w' (At Ends)) (sym (drop-cons candidates i d within)) goes
