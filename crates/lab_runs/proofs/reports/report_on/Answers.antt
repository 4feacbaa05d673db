use Rattle.std.proofs.Common.{◌≡◌, List, length, sym, ap, subst, ◌∙◌, arith}
use Rattle.rr_elements.specs.declared.measurement.Ncell.{Ncell}
use Rattle.lab_runs.specs.Asked.{Measures, head_of}
use Rattle.lab_runs.proofs.ReportFacts.{is_report}
use Rattle.lab_runs.proofs.reports.report_on.Goals as goal

pub returns-in-Ok : goal.returns-in-Ok
returns-in-Ok g c =
    let all = c.deref.result.now in
    let site = c.args.site.now in
    let report = c.args.report.now in
    let lent : all ≡ c.add_measured.new.neighbours.items = c.deref.ensures.value in
    let measured = subst (λ (before : List Ncell). Measures site c.args.chan.cell report.heard before c.in_ok-unmet.field-0 all) c.new-neighbours.ensures.items
    (subst (λ (ns : List Ncell). Measures site c.args.chan.cell report.heard c.new-neighbours.result.items c.in_ok-unmet.field-0 ns) (sym lent) c.in_ok-unmet.ensures.measured) in
    let count : c.len.result ≡ length all = omega (arith, c.len.ensures, c.deref.ensures.len) in
    let counted = c.head_of.ensures ∙ ap (head_of report) count in
    is_report site c.args.chan report all c.in_ok-unmet.field-0 c.in_default.field-0 c.head_of.result c.new.result c.in-Ok.results c.in_ok-reported-in-Ok.field-0
    measured c.in_default.is counted c.new.ensures.bad_range c.new.ensures.ok c.in-Ok.is c.in_ok-reported-in-Ok.ensures
