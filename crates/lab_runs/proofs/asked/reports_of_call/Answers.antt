use Rattle.std.proofs.Common.{◌≡◌, Some, sym, ap, subst, ◌∙◌}
use Rattle.radio_book.specs.State.{State, record_of}
use Rattle.lab_runs.specs.Asked.{AreReportsAt, serving_channel}
use Rattle.lab_runs.proofs.ReportFacts.{at_channel}
use Rattle.lab_runs.proofs.asked.reports_of_call.Goals as goal

pub returns-in-Ok-2-clause-reports : goal.returns-in-Ok-2-clause-reports
returns-in-Ok-2-clause-reports g c =
    let book = c.args.desk.now.book in
    let on : serving_channel (record_of book c.args.call) ≡ Some c.in-Ok.chan =
    ap (λ (b : State). serving_channel (record_of b c.args.call)) (sym c.book.ensures.book) ∙ sym c.in-Ok.ensures.channel in
    let site = c.deref.ensures ∙ (c.site.ensures.site ∙ ap (λ (b : State). b.site) c.book-2.ensures.book) in
    at_channel _ book.site c.args.report.now _ c.in-Ok.chan c.new-inputs.result.items c.add_reports.new.inputs.items site on c.new-inputs.ensures.items c.in_ok-add_reports.ensures.reports

pub returns-in-Err-2-clause-unmet : goal.returns-in-Err-2-clause-unmet
returns-in-Err-2-clause-unmet g c =
    let book = c.args.desk.now.book in
    let on : serving_channel (record_of book c.args.call) ≡ Some c.in-Ok.chan =
    ap (λ (b : State). serving_channel (record_of b c.args.call)) (sym c.book.ensures.book) ∙ sym c.in-Ok.ensures.channel in
    let site = c.deref.ensures ∙ (c.site.ensures.site ∙ ap (λ (b : State). b.site) c.book-2.ensures.book) in
    let same : c.add_reports.new.inputs.items ≡ c.new-inputs.result.items = rw c.in-Err-2.is at c.in_ok-add_reports.ensures.unmet in
    subst (AreReportsAt book.site c.args.report.now (serving_channel (record_of book c.args.call))) (same ∙ c.new-inputs.ensures.items)
    (at_channel _ book.site c.args.report.now _ c.in-Ok.chan c.new-inputs.result.items c.add_reports.new.inputs.items site on c.new-inputs.ensures.items c.in_ok-add_reports.ensures.reports)
