use Rattle.std.proofs.Common.{◌≡◌, ◌+◌, ◌<◌, ◌^◌, Some, None, Ok, Err, Result, OnErr, get_or, sym, ap, ◌∙◌}
use Rattle.std.specs.Prelude.{if◌then◌else◌, position, slice_get}
use Rattle.std.proofs.lemmas.List.Quantifiers.{position-Some}
use Rattle.std.proofs.lemmas.List.Elements.{All-get_or}
use Rattle.std.proofs.lemmas.Option.{slice_get-get_or, get_or_from_slice_get}
use Rattle.run_counts.specs.declared.report.Report.{Report}
use Rattle.run_counts.specs.declared.counts.Row.{Row}
use Rattle.run_counts.specs.Counts as said
use Rattle.run_counts.proofs.Counting.{more, uncounted}
use Rattle.run_counts.proofs.SameReports.{the_report}
use Rattle.run_counts.proofs.counts.count_report.Goals as goal

pub returns-in-Some-clause-counted : goal.returns-in-Some-clause-counted
returns-in-Some-clause-counted g c p room =
    let rows = c.args.rows.now.items in
    let place = c.in-Some.place in
    let other : Row = record { report = c.args.report; count = 0 } in
    let row : Row = get_or rows place other in
    let at : position (λ (r : Row). said.is_report c.args.report r.report) rows ≡ Some place =
    sym (c.place_of.ensures ∙ ap (λ rs. position (λ (r : Row). said.is_report c.args.report r.report) rs) c.deref.ensures.value) ∙ c.in-Some.is in
    let found = position-Some (λ (r : Row). said.is_report c.args.report r.report) rows place other at in
    let there : slice_get rows place ≡ Some row = slice_get-get_or rows place other found.0 in
    let one_more_fits : row.count + 1 < 2 ^ 64 = All-get_or (λ (r : Row). r.count + 1 < 2 ^ 64) rows place other found.0 room in
    let is : c.args.report ≡ row.report = the_report c.args.report row.report found.1 in
    let written = c.count_more.ensures row there one_more_fits in
    ap (λ rs. said.counted_by p rs) written
    ∙ more p rows place row found.0 (get_or_from_slice_get rows place row row there)
    ∙ ap (λ (r : Report). said.counted_by p rows + (if p r then 1 else 0)) (sym is)

on_error : {T E : Type 0} {P : Type 0} (r : Result T E) → P → OnErr r P
on_error (Ok x) known = tt
on_error (Err e) known = known

pub returns-in_err-push-in-None-clause-memory : goal.returns-in_err-push-in-None-clause-memory
returns-in_err-push-in-None-clause-memory g c =
    let rows = c.args.rows.now.items in
    let none : position (λ (r : Row). said.is_report c.args.report r.report) rows ≡ None =
    ap (λ rs. position (λ (r : Row). said.is_report c.args.report r.report) rs) (sym c.deref.ensures.value) ∙ sym c.place_of.ensures ∙ c.in-None.is in
    on_error c.from_residual.result (uncounted (said.is_report c.args.report) rows none)
