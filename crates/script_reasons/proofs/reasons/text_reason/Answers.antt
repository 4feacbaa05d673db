use Rattle.std.proofs.Common.{Some, None, sym, ap, ◌∙◌}
use Rattle.script_reasons.specs.declared.reasons.Fault.{Fault}
use Rattle.script_reasons.proofs.ReasonLemmas.{by_form}
use Rattle.script_reasons.proofs.reasons.text_reason.Goals as goal

pub returns-in-Some : goal.returns-in-Some
returns-in-Some c =
    c.form_reason.ensures ∙ by_form c.args.has_peer c.args.is_peer c.args.text.now _ _ (Some c.in-Some.form) c.cut_word.ensures.first c.cut_word.ensures.rest (sym c.in-Some.is ∙ c.form_of.ensures.form)

pub returns-in-None : goal.returns-in-None
returns-in-None c =
    ap (λ (fault : Fault). Some (fault, c.cut_word.result.0.now)) c.keyword_fault-fault.ensures
    ∙ by_form c.args.has_peer c.args.is_peer c.args.text.now _ _ None c.cut_word.ensures.first c.cut_word.ensures.rest (sym c.in-None.is ∙ c.form_of.ensures.form)
