use Rattle.std.proofs.Common.{slice_get, sym, ap, ◌∙◌}
use Rattle.std.proofs.lemmas.Result.{on_ok_weaker}
use Rattle.cell_table.specs.Site.{SiteView, channels}
use Rattle.lab_runs.proofs.ReportFacts.{next_reports, same_reports}
use Rattle.lab_runs.proofs.asked.add_reports_at.Goals as goal

pub returns-in-Some : goal.returns-in-Some
returns-in-Some g c =
    let at = ap (λ (s : SiteView). slice_get (channels s) c.args.index) (sym (c.deref.ensures ∙ c.site.ensures.site)) ∙ sym c.in-Some.ensures.value in
    on_ok_weaker c.add_reports_if_on.result
    (next_reports c.args.book.now c.args.report.now c.args.index c.in-Some.chan c.args.inputs.now.items c.add_reports_if_on.new.inputs.items at) c.add_reports_if_on.ensures

pub returns-in-None : goal.returns-in-None
returns-in-None g c =
    let at = ap (λ (s : SiteView). slice_get (channels s) c.args.index) (sym (c.deref.ensures ∙ c.site.ensures.site)) ∙ sym c.in-None.ensures.value in
    same_reports c.args.book.now c.args.report.now c.args.index c.args.inputs.now.items at
