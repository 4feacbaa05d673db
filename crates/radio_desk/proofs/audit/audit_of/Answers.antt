use Rattle.std.proofs.Common.{◌↔◌, IsTrue, [], sym, ◌∙◌, ap, subst}
use Rattle.radio_book.specs.Found.{first_place}
use Rattle.radio_book.specs.Following.{settling_count, remaining_from, all_held_from}
use Rattle.radio_desk.specs.Audit.{LeadsAlike}
use Rattle.radio_desk.proofs.AuditFacts.{attempts_are, remaining_same, held_same, no_trace}
use Rattle.radio_desk.proofs.audit.audit_of.Goals as goal

pub returns : goal.returns
returns g c =
    let opening = c.args.opening.now in
    let history = c.args.history.now in
    let book = c.args.book.now in
    let sound = c.usage.ensures.sound in
    let legal = c.requires.legal in
    let steps = c.deref.ensures.value ∙ c.in_ok-steps.ensures in
    let rest = c.deref-2.ensures.value ∙ c.in_ok-walk.ensures.remaining ∙ ap (remaining_from []) steps in
    let first = c.in_ok-walk.ensures.held ∙ ap (λ ss. first_place (all_held_from [] ss)) steps in
    let found = attempts_are opening history book sound legal in record {
      attempts = (found.0, found.1, c.in_ok-walk.ensures.attempts ∙ ap settling_count steps ∙ found.2);
      held = λ us are. first ∙ ap first_place (held_same opening history book sound legal us are);
      same = λ us are.
          subst (λ ss. IsTrue c.in_ok-same.same ↔ LeadsAlike opening ss book) (rest ∙ remaining_same opening history book sound legal us are) c.in_ok-same.ensures;
      no_trace = λ none.
          c.in_ok-same.ensures.1 (subst (λ ss. LeadsAlike opening ss book) (sym rest) (no_trace opening history book sound legal (sym first ∙ none)));
    }
