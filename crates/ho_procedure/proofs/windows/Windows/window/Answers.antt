use Rattle.std.proofs.Common.{rules, ◌≡◌, Some, None, sym, ◌∙◌, ap}
use Rattle.std.proofs.lemmas.List.{get_or_read}
use Rattle.std.proofs.lemmas.List.Elements.{All-get_or}
use Rattle.std.proofs.lemmas.List.Quantifiers.{position-Some}
use Rattle.std.specs.List.{position}
use Rattle.measurements.specs.Reports.{no_reports}
use Rattle.ho_procedure.specs.Windows.{Entry, reports_of, is_of}
use Rattle.ho_procedure.proofs.WindowFacts.{reports_there, none_there}
use Rattle.ho_procedure.proofs.windows.Windows.window.Goals as goal

pub returns-in_err-place-clause-none : goal.returns-in_err-place-clause-none
returns-in_err-place-clause-none g c =
    let w = c.args.self.now in
    let none : position (is_of c.args.call) w.entries ≡ None = sym c.place_of.ensures ∙ c.in_err-place.was in
    search (rules, none_there w.width w.entries c.args.call none)

pub returns-clause-width : goal.returns-clause-width
returns-clause-width g c =
    let xs = c.self.inside.entries.items in
    let width = c.self.inside.width in
    let place = c.in_ok-place.place in
    let d : Entry = (0, no_reports width) in
    let at : position (is_of c.args.call) xs ≡ Some place = ap (λ w. position (is_of c.args.call) w.entries) c.self.view_is ∙ sym c.place_of.ensures ∙ c.in_ok-place.was in
    let within = (position-Some (is_of c.args.call) xs place d at).0 in
    let here = get_or_read xs place _ within c.index.ensures d in
    ap (λ e. e.1.width) here ∙ All-get_or (λ e. e.1.width ≡ width) xs place d within c.self.invariant.0.wide ∙ ap (λ w. w.width) c.self.view_is

pub returns-clause-reports : goal.returns-clause-reports
returns-clause-reports g c =
    let xs = c.self.inside.entries.items in
    let width = c.self.inside.width in
    let place = c.in_ok-place.place in
    let d : Entry = (0, no_reports width) in
    let at : position (is_of c.args.call) xs ≡ Some place = ap (λ w. position (is_of c.args.call) w.entries) c.self.view_is ∙ sym c.place_of.ensures ∙ c.in_ok-place.was in
    let here = get_or_read xs place _ (position-Some (is_of c.args.call) xs place d at).0 c.index.ensures d in
    ap (λ e. e.1) here ∙ reports_there width xs c.args.call place d at ∙ ap (λ w. reports_of w c.args.call) c.self.view_is
