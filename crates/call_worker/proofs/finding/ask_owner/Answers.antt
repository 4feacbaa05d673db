use Rattle.std.proofs.Common.{[], Err, ap, sym, ◌∙◌}
use Rattle.std.proofs.lemmas.List.{append-nil}
use Rattle.call_worker.proofs.Asking.{some_known}
use Rattle.call_worker.proofs.finding.ask_owner.Goals as goal

pub returns-in-Err-Foreign-clause-ok : goal.returns-in-Err-Foreign-clause-ok
returns-in-Err-Foreign-clause-ok g c = ([], c.in-Err-Foreign.ensures.err ∙ sym (append-nil _), (some_known _ _ (c.in-Err-Foreign.ensures.place _ (ap Err c.in-Err-Foreign.field-0-is)), c.from.ensures))
