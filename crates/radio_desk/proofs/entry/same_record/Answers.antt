use Rattle.std.proofs.Common.{sym, ◌∙◌}
use Rattle.radio_tables.proofs.SameFacts.{call_record_eq-Decides}
use Rattle.radio_desk.proofs.entry.same_record.Goals as goal

pub returns : goal.returns
returns c =
    let decides = call_record_eq-Decides c.args.one c.args.other in
    ((λ t. decides.0 (sym c.eq.ensures ∙ t)), λ e. c.eq.ensures ∙ decides.1 e)
