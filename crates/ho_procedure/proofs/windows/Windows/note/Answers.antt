use Rattle.std.proofs.Common.{rules, ◌≡◌, ◌∷◌, ◌++◌, [], Some, ◌∙◌, ap}
use Rattle.std.specs.List.{position}
use Rattle.measurements.specs.Reports.{last_valid}
use Rattle.ho_procedure.specs.Windows.{reports_of, is_of}
use Rattle.ho_procedure.proofs.WindowFacts.{noted_same, noted_other}
use Rattle.ho_procedure.proofs.windows.Windows.note.Goals as goal

pub returns-in-Some-clause-noted : goal.returns-in-Some-clause-noted
returns-in-Some-clause-noted g c =
    let xs = c.self.inside.entries.items in
    let width = c.self.inside.width in
    let at : position (is_of c.args.call) xs ≡ Some c.in-Some.place = search rules in
    noted_same width xs _ c.in-Some.place c.args.call c.args.report.now c.self.invariant.0 at c.add_at.ensures
    ∙ ap (λ w. last_valid w.width ((reports_of w c.args.call).reports ++ c.args.report.now ∷ [])) c.self.view_is

pub returns-in-Some-clause-others : goal.returns-in-Some-clause-others
returns-in-Some-clause-others g c = λ other h.
    let xs = c.self.inside.entries.items in
    let width = c.self.inside.width in
    let at : position (is_of c.args.call) xs ≡ Some c.in-Some.place = search rules in
    noted_other width xs _ c.in-Some.place c.args.call other c.args.report.now at c.add_at.ensures h
    ∙ ap (λ w. reports_of w other) c.self.view_is
