use Rattle.std.proofs.Common.{sym, ◌∙◌}
use Rattle.lab_runs.proofs.ReportFacts.{reports_if_on}
use Rattle.lab_runs.proofs.asked.add_reports_if_on.Goals as goal

pub returns-in_ok-add_reports : goal.returns-in_ok-add_reports
returns-in_ok-add_reports g c =
    reports_if_on c.args.book.now _ c.args.report.now c.args.chan c.args.inputs.now.items c.add_reports.new.inputs.items (c.deref.ensures ∙ c.site.ensures.site) (sym c.if-is_on.ensures.on)
    c.in_ok-add_reports.ensures.reports
