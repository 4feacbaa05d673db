use Rattle.std.proofs.Common.{◌≡◌, ◌∙◌, sym, ap, subst}
use Rattle.cell_table.specs.Site.{IsSite}
use Rattle.cell_table.specs.ReportedNeighbours.{reported_as}
use Rattle.cell_table.proofs.NameFacts.{name_is}
use Rattle.cell_table.proofs.site.Site.reported_as.Goals as goal

pub returns : goal.returns
returns g c =
    let site = c.args.self.now in
    let sound : IsSite site = subst IsSite c.self.view_is c.self.invariant in
    let same : c.deref.result.now ≡ site = c.deref.ensures ∙ c.self.view_is in
    let found : c.name_in.result ≡ reported_as site c.args.cell c.args.neighbour =
    c.name_in.ensures.value ∙ ap (λ tables. reported_as tables c.args.cell c.args.neighbour) same in
    record {
      name = λ place bsic.
          let is = name_is site sound c.args.cell c.args.neighbour place bsic in
          (λ e. is.0 (sym found ∙ e), λ n. found ∙ is.1 n);
    }
