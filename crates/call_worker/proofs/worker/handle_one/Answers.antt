use Rattle.std.proofs.Common.{◌∷◌, ◌++◌, [], refl, ap, ◌∙◌, length}
use Rattle.call_worker.proofs.Turning.{follows-more, follows-lost, upto_is}
use Rattle.call_worker.proofs.worker.handle_one.Goals as goal

pub returns-then-is_err-clause-follows : goal.returns-then-is_err-clause-follows
returns-then-is_err-clause-follows g c start got f = follows-lost _ start got _ _ _ _ _ _ c.args.input _ _ c.reserve.ensures.items refl f

pub returns-in_default-clause-follows : goal.returns-in_default-clause-follows
returns-in_default-clause-follows g c start got f = follows-lost _ start got _ _ _ _ _ _ c.args.input _ _ c.reserve.ensures.items refl f

pub returns-clause-follows : goal.returns-clause-follows
returns-clause-follows g c start got f =
    follows-more _ start got _ _ _ _ _ _ _ _ _ _ c.in-Ok.kept c.args.input _ _ _ _ _ c.requires refl f c.answer-out.ensures.took c.in-Ok.ensures.same
    (c.push_reserved.ensures.items ∙ ap (λ l. l ++ record { input = c.in-Ok.kept; upto = c.len-upto.result; ok = c.answer-out.result.1 } ∷ []) c.reserve.ensures.items)
    (upto_is c.answer-out.new.controller.0 _ (c.len-upto.ensures ∙ ap (λ l. length l) c.view.ensures.view)) c.send_all.ensures
