use Rattle.radio_desk.specs.Audit.{LeadsAlike}
use Rattle.audits.specs.Histories.{LeadsApart}
use Rattle.audits.proofs.HistoryFacts.{of_book}
use Rattle.audits.proofs.traced.audit_over.Goals as goal

pub returns-clause-done : goal.returns-clause-done
returns-clause-done g c = of_book LeadsAlike _ _ _ _ c.in_ok-book.ensures.book c.audit_entries.ensures.done

pub returns-clause-differs : goal.returns-clause-differs
returns-clause-differs g c = of_book LeadsApart _ _ _ _ c.in_ok-book.ensures.book c.audit_entries.ensures.differs
