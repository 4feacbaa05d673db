use Rattle.std.proofs.Common.{not, filter, sym, ◌∙◌, ap, subst}
use Rattle.measurements.specs.Reports.{no_reports}
use Rattle.ho_procedure.specs.Windows.{AreKept, reports_of, reports_in, is_of}
use Rattle.ho_procedure.proofs.WindowFacts.{kept_left, dropped_same, dropped_other}
use Rattle.ho_procedure.proofs.windows.Windows.clear.Goals as goal

pub invariant_of-self : goal.invariant_of-self
invariant_of-self g c =
    let width = c.self.inside.width in
    (subst (λ ys. AreKept ys width) (sym c.drop_entries.ensures.others) (kept_left width c.self.inside.entries.items (λ e. not (is_of c.args.call e)) c.self.invariant.0), c.self.invariant.1)

pub returns-clause-entries : goal.returns-clause-entries
returns-clause-entries g c = c.drop_entries.ensures.others ∙ ap (λ w. filter (λ e. not (is_of c.args.call e)) w.entries) c.self.view_is

pub returns-clause-cleared : goal.returns-clause-cleared
returns-clause-cleared g c =
    let width = c.self.inside.width in
    ap (λ ys. reports_in width ys c.args.call) c.drop_entries.ensures.others
    ∙ dropped_same width c.self.inside.entries.items c.args.call
    ∙ ap (λ w. no_reports w.width) c.self.view_is

pub returns-clause-others : goal.returns-clause-others
returns-clause-others g c = λ other h.
    let width = c.self.inside.width in
    ap (λ ys. reports_in width ys other) c.drop_entries.ensures.others
    ∙ dropped_other width c.self.inside.entries.items c.args.call other h
    ∙ ap (λ w. reports_of w other) c.self.view_is
