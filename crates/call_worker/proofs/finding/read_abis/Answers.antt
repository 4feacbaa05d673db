use Rattle.std.proofs.Common.{Err, ap, ◌∙◌}
use Rattle.call_worker.proofs.Asking.{not_ok, no_fault, fault_told}
use Rattle.call_worker.proofs.finding.read_abis.Goals as goal

pub returns-in-Ok-clause-undecoded : goal.returns-in-Ok-clause-undecoded
returns-in-Ok-clause-undecoded g c f = not_ok _ _ f (no_fault _ c.reading_is_unique.ensures.unique c.in-Ok.message c.in-Ok.ensures.decodes.text f)

pub returns-in-Err-clause-undecoded : goal.returns-in-Err-clause-undecoded
returns-in-Err-clause-undecoded g c f =
    fault_told _ c.reading_is_unique.ensures.unique c.in-Err.fault _ c.told.ensures.tells c.in-Err.ensures.decodes.fault (λ e. c.decode.ensures.decodes.memory (c.in-Err.is ∙ ap Err e)) f
