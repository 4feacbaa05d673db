use Rattle.std.proofs.Common.{subst}
use Rattle.cell_table.specs.Site.{TrafficLiesWithin}
use Rattle.cell_table.proofs.SiteFacts.{traffic_limits}
use Rattle.cell_table.proofs.site.Site.cells.Goals as goal

pub returns-clause-traffic : goal.returns-clause-traffic
returns-clause-traffic g c =
    subst TrafficLiesWithin c.self.view_is (λ chan named. traffic_limits c.self.inside.tables.value chan c.self.invariant named)
