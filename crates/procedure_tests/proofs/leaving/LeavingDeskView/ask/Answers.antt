use Rattle.ho_procedure.proofs.Saying.{answers_too, lacks_too}
use Rattle.procedure_tests.proofs.StillSaid.{still_said, says_too}
use Rattle.procedure_tests.proofs.leaving.LeavingDeskView.ask.Goals as goal

pub returns-in_err-sits-clause-said : goal.returns-in_err-sits-clause-said
returns-in_err-sits-clause-said g c = rw (← c.self.view_is) (λ es claim allows. allows)

pub returns-clause-ok : goal.returns-clause-ok
returns-clause-ok g c = rw (← c.self.view_is) (answers_too _ _ _ _ _ _ (says_too _ _) c.ask.ensures.ok)

pub returns-clause-said : goal.returns-clause-said
returns-clause-said g c = rw (← c.self.view_is) (still_said _ _ c.ask.ensures.said)

pub returns-clause-memory : goal.returns-clause-memory
returns-clause-memory g c = rw (← c.self.view_is) (lacks_too _ _ _ _ (says_too _ _) c.ask.ensures.memory)
