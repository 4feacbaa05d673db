use Rattle.audits.proofs.HistoryFacts.{same_in, differs_in}
use Rattle.audits.proofs.traced.audited.Goals as goal

pub returns-clause-same : goal.returns-clause-same
returns-clause-same g c = same_in c.args.desk.now c.audit.result c.len.ensures.legal c.audit.ensures.audit

pub returns-clause-differs : goal.returns-clause-differs
returns-clause-differs g c = differs_in c.args.desk.now c.audit.result c.len.ensures.legal c.audit.ensures.audit
