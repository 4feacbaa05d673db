use Rattle.lab_runs.proofs.ReportFacts.{one_heard}
use Rattle.lab_runs.proofs.reports.measured.Goals as goal

pub returns-in-Some : goal.returns-in-Some
returns-in-Some g c = record { heard = one_heard c.args.site.now c.args.cell c.args.heard c.in-Some.position c.in-Some.bsic c.in-Some.ensures.name }
