use Rattle.std.proofs.Common.{◌≡◌, ap, ◌∙◌}
use Rattle.radio_book.specs.State.{empty_book}
use Rattle.radio_desk.specs.Desk.{DeskState}
use Rattle.lab_runs.specs.Notes.{NotingState}
use Rattle.lab_runs.proofs.controllers.fresh.Goals as goal

pub returns : goal.returns
returns g c =
    let desk : c.new-3.result.0.desk ≡ c.in_ok-new.field-0 = ap (λ (v : NotingState). v.desk) c.new-3.ensures.view ∙ c.new-view.ensures.desk in
    let same : c.in_ok-clone.field-0.value ≡ c.args.site.now.value = c.in_ok-clone.ensures.cases in
    record {
      opening = record {
        opening = ap (λ (d : DeskState). d.opening) desk ∙ (c.in_ok-new.ensures.opening ∙ (c.in_ok-book.ensures.empty ∙ ap empty_book same));
        history = ap (λ (d : DeskState). d.history) desk ∙ c.in_ok-new.ensures.history;
        reports = c.new-3.ensures.reports;
        of_site = c.new-3.ensures.site ∙ c.in_ok-clone-2.ensures.cases;
      };
    }
