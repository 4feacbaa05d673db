use Rattle.ho_procedure.proofs.Seated.{not_foreign, may_lack, still_true, ask_opens, ask_chooses}
use Rattle.ho_procedure.proofs.solo.SoloDeskView.ask.Goals as goal

pub returns-clause-ok : goal.returns-clause-ok
returns-clause-ok g c = rw (← c.self.view_is) (ask_chooses _ _ _ _ _ c.len-entries.ensures.legal c.ask.ensures.none c.ask.ensures.kept c.ask.ensures.event c.ask.ensures.judged)

pub returns-clause-foreign : goal.returns-clause-foreign
returns-clause-foreign g c = not_foreign _ _ _ c.new.ensures.none c.ask.ensures.foreign

pub returns-clause-memory : goal.returns-clause-memory
returns-clause-memory g c = rw (← c.self.view_is) (may_lack _ _ _ _ _ _ c.new.ensures.none c.len-entries.ensures.legal c.ask.ensures.looked c.ask.ensures.owed)

pub returns-clause-said : goal.returns-clause-said
returns-clause-said g c = rw (← c.self.view_is) (still_true _ _ (ask_opens _ _ _ _ _ c.ask.ensures.judged c.ask.ensures.kept c.ask.ensures.unchanged))

pub returns-clause-refused : goal.returns-clause-refused
returns-clause-refused g c = rw (← c.self.view_is) c.ask.ensures.memory
