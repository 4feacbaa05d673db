use Rattle.std.proofs.Common.{◌≡◌, ◌∙◌, ◌∷◌, ◌++◌, [], true, false, rules}
use Rattle.measurements.specs.Reports.{is_valid, last_valid}
use Rattle.measurements.proofs.KeptLemmas.{last_valid-valid, last_valid-invalid}
use Rattle.measurements.proofs.window.Window.add.Goals as goal

pub returns-then-head-clause-reports : goal.returns-then-head-clause-reports
returns-then-head-clause-reports g c =
    let w = c.self.inside.reports in
    let r = c.args.report.now in
    let valid : is_valid r ≡ true = search rules in
    rw (c.push_back-forgotten.ensures.items, ← c.self.view_is) (last_valid-valid w.capacity w.items r c.self.invariant.valid valid)

pub returns-else-head-clause-reports : goal.returns-else-head-clause-reports
returns-else-head-clause-reports g c =
    let w = c.self.inside.reports in
    let r = c.args.report.now in
    let invalid : is_valid r ≡ false = search rules in
    rw (← c.self.view_is) (last_valid-invalid w.capacity w.items r c.self.invariant.valid c.self.invariant.few invalid)
