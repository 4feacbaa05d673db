use Rattle.std.proofs.Common.{◌≡◌, sym, subst, []}
use Rattle.cell_table.specs.Site.{channels}
use Rattle.radio_book.specs.State.{State}
use Rattle.lab_runs.specs.Asked.{AreReportsOfAll}
use Rattle.lab_runs.proofs.ReportFacts.{none_in}
use Rattle.lab_runs.proofs.asked.reports_of_all.Goals as goal

pub returns-then-is_empty-clause-unmet : goal.returns-then-is_empty-clause-unmet
returns-then-is_empty-clause-unmet g c =
    let inputs = c.in_ok-inputs.inputs in
    let none : inputs.items ≡ [] = none_in inputs.items _ (sym c.if-is_empty.ensures) inputs.ok.0 in
    subst (λ (b : State). AreReportsOfAll b c.args.report.now (channels b.site) []) c.book.ensures.book
    (subst (λ is. AreReportsOfAll c.book.result.now c.args.report.now (channels c.book.result.now.site) is) none c.in_ok-inputs.ensures)
