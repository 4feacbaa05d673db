use Rattle.std.proofs.Common.{◌≡◌, sym, ◌∙◌, rules}
use Rattle.cell_table.specs.Site.{is_traffic}
use Rattle.cell_table.proofs.SiteFacts.{traffic_limits}
use Rattle.cell_table.proofs.site.Site.is_traffic.Goals as goal

pub returns-in-Some-clause-limits : goal.returns-in-Some-clause-limits
returns-in-Some-clause-limits g c named =
    let traffic : c.contains.result ≡ is_traffic c.self.inside.tables.value c.args.chan = search rules in
    traffic_limits c.self.inside.tables.value c.args.chan c.self.invariant (sym traffic ∙ named)
