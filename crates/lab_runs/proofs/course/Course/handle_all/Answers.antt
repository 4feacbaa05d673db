use Rattle.std.proofs.Common.{◌≡◌, ◌∷◌, [], List, map, refl, sym, ◌∙◌, subst}
use Rattle.std.proofs.lemmas.Iterator.Adapters.{YieldsList-from_vec}
use Rattle.std.proofs.lemmas.Iterator.Consumers.{YieldsList-end}
use Rattle.std.proofs.lemmas.List.{map-append, map-id}
use Rattle.exchange.specs.declared.Inbound.{Inbound}
use Rattle.lab_script.specs.declared.side.Side.{Side}
use Rattle.lab_runs.specs.Course.{Went}
use Rattle.lab_runs.proofs.CourseFacts.{stayed, went_on}
use Rattle.lab_runs.proofs.course.Course.handle_all.Goals as goal

pub loop-input-init : goal.loop-input-init
loop-input-init g c = record { can_next = tt; is_finite = tt; went = stayed c.args.self.now; sim = refl }

pub loop-input-preserved : goal.loop-input-preserved
loop-input-preserved g c =
    let for_it : Inbound g.row.A.Denot → Side × Inbound g.row.A.Denot = λ input. (c.args.side, input) in
    let done = c.loop-input.yielded in
    let next = c.in-Some.input ∷ [] in
    let went = went_on (map for_it done) (map for_it next) _ _ _ c.loop-input.invariant.went c.in_ok-handle.ensures.went in
    record {
      can_next = tt;
      is_finite = tt;
      went = subst (λ inputs. Went inputs c.args.self.now c.handle.new.self) (sym (map-append for_it done next)) went;
      sim = c.in_ok-handle.ensures.sim ∙ c.loop-input.invariant.sim;
    }

pub returns-clause-went : goal.returns-clause-went
returns-clause-went g c =
    let given = c.into_iter-input-iterator.ensures.into_iter_gives in
    let all = YieldsList-end (YieldsList-from_vec {s = c.into_iter-input-iterator.result} c.args.inputs.items given.0 (given.1 ∙ c.args.inputs.ok.0)) c.loop-input.yielded _ c.loop-input.yielded_by c.next.result c.next.new.self c.in-None.is c.next.ensures.steps in
    subst (λ (inputs : List (Inbound g.row.A.Denot)). Went (map (λ input. (c.args.side, input)) inputs) c.args.self.now c.loop-input.self) (sym (map-id c.loop-input.yielded) ∙ all.0) c.loop-input.invariant.went
