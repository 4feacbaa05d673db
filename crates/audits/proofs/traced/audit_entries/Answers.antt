use Rattle.radio_desk.specs.Audit.{LeadsAlike}
use Rattle.audits.specs.Histories.{LeadsApart}
use Rattle.audits.proofs.HistoryFacts.{of_events}
use Rattle.audits.proofs.traced.audit_entries.Goals as goal

pub returns-in-Some-clause-done : goal.returns-in-Some-clause-done
returns-in-Some-clause-done g c =
    let events = rw c.in-Some.is at c.in_ok-told.ensures.events in
    of_events LeadsAlike c.args.book _ _ _ events c.audit_read.ensures.done

pub returns-in-Some-clause-differs : goal.returns-in-Some-clause-differs
returns-in-Some-clause-differs g c =
    let events = rw c.in-Some.is at c.in_ok-told.ensures.events in
    of_events LeadsApart c.args.book _ _ _ events c.audit_read.ensures.differs
