use Rattle.std.proofs.Common.{◌≡◌, ◌∷◌, ◌++◌, [], None, IfSome, sym, ◌∙◌, ap, subst}
use Rattle.std.specs.List.{position}
use Rattle.measurements.specs.Reports.{no_reports, last_valid}
use Rattle.ho_procedure.specs.Windows.{reports_of, reports_in, is_of}
use Rattle.ho_procedure.proofs.WindowFacts.{none_there, pushed_same, pushed_other}
use Rattle.ho_procedure.proofs.windows.Windows.begin.Goals as goal

pub returns-clause-noted : goal.returns-clause-noted
returns-clause-noted g c =
    let xs = c.self.inside.entries.items in
    let width = c.self.inside.width in
    let r = c.args.report.now in
    let none : position (is_of c.args.call) xs ≡ None = ap (λ w. position (is_of c.args.call) w.entries) c.self.view_is ∙ c.requires.new in
    let spare : c.in-Some.window ≡ no_reports width = subst (λ o. IfSome o (λ v. v ≡ no_reports width)) (sym c.take.ensures.value ∙ c.in-Some.is) c.self.invariant.1 in
    let before = sym (none_there width xs c.args.call none) ∙ ap (λ w. reports_of w c.args.call) c.self.view_is in
    ap (λ ys. (reports_in width ys c.args.call).reports) c.push_reserved.ensures.items
    ∙ ap (λ w. w.reports) (pushed_same width xs c.args.call c.add.new.self none)
    ∙ c.add.ensures.reports
    ∙ ap (λ w. last_valid w.width (w.reports ++ r ∷ [])) spare
    ∙ ap (λ n. last_valid n (r ∷ [])) (ap (λ w. w.width) c.self.view_is)
    ∙ ap (λ w. last_valid c.args.self.now.width (w.reports ++ r ∷ [])) before

pub returns-clause-others : goal.returns-clause-others
returns-clause-others g c = λ other h.
    let xs = c.self.inside.entries.items in
    let width = c.self.inside.width in
    ap (λ ys. reports_in width ys other) c.push_reserved.ensures.items
    ∙ pushed_other width xs c.args.call c.add.new.self other h
    ∙ ap (λ w. reports_of w other) c.self.view_is
