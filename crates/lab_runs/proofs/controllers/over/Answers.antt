use Rattle.std.proofs.Common.{◌≡◌, ap, ◌∙◌}
use Rattle.radio_desk.specs.Desk.{DeskState}
use Rattle.lab_runs.specs.Notes.{NotingState}
use Rattle.lab_runs.proofs.controllers.over.Goals as goal

pub returns : goal.returns
returns g c =
    let desk : c.new-2.result.0.desk ≡ c.in_ok-new.field-0 = ap (λ (v : NotingState). v.desk) c.new-2.ensures.view ∙ c.new-view.ensures.desk in
    record {
      opening = record {
        opening = ap (λ (d : DeskState). d.opening) desk ∙ c.in_ok-new.ensures.opening;
        history = ap (λ (d : DeskState). d.history) desk ∙ c.in_ok-new.ensures.history;
        reports = c.new-2.ensures.reports;
        of_site = c.new-2.ensures.site ∙ (c.in_ok-site.ensures.cases ∙ c.site.ensures.site);
      };
    }
