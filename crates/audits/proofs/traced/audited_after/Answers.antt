use Rattle.std.proofs.Common.{true, false, ◌∙◌}
use Rattle.radio_desk.specs.Audit.{LeadsAlike}
use Rattle.audits.specs.Histories.{LeadsApart}
use Rattle.audits.proofs.HistoryFacts.{asked_so}
use Rattle.audits.proofs.traced.audited_after.Goals as goal

pub returns-clause-same : goal.returns-clause-same
returns-clause-same g c = asked_so LeadsAlike true c.audited.result _ _ _ _ c.in_ok-desk.ensures.opening (c.in_ok-desk.ensures.events ∙ c.deref.ensures.value) c.audited.ensures.same

pub returns-clause-differs : goal.returns-clause-differs
returns-clause-differs g c = asked_so LeadsApart false c.audited.result _ _ _ _ c.in_ok-desk.ensures.opening (c.in_ok-desk.ensures.events ∙ c.deref.ensures.value) c.audited.ensures.differs
