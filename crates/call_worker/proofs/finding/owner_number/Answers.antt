use Rattle.call_worker.proofs.Asking.{not_ok, not_memory, none_of, passed_on}
use Rattle.call_worker.proofs.finding.owner_number.Goals as goal

pub returns-in-Err-clause-undecoded : goal.returns-in-Err-clause-undecoded
returns-in-Err-clause-undecoded g c f = passed_on c.in-Err.fault f _ (c.in-Err.ensures.undecoded f)

pub returns-in-Ok-ask_owner-clause-undecoded : goal.returns-in-Ok-ask_owner-clause-undecoded
returns-in-Ok-ask_owner-clause-undecoded g c f = not_ok _ _ f (none_of c.in-Ok.message f _ (c.in-Ok.ensures.undecoded f))

pub returns-clause-undecoded : goal.returns-clause-undecoded
returns-clause-undecoded g c f = not_memory _ f (none_of c.in-Ok.message f _ (c.in-Ok.ensures.undecoded f))
