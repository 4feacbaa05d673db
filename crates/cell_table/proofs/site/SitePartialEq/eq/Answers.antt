use Rattle.std.proofs.Common.{◌≡◌, rules}
use Rattle.std.proofs.lemmas.Bool.Decides.{Decides-at}
use Rattle.cell_table.specs.Same.{same_site}
use Rattle.cell_table.proofs.Same.{same_site-Decides}
use Rattle.cell_table.proofs.site.SitePartialEq.eq.Goals as goal

pub returns-clause-same : goal.returns-clause-same
returns-clause-same g c =
    let told : c.eq.result ≡ same_site c.args.self.now c.args.other.now = search rules in
    Decides-at c.eq.result (same_site c.args.self.now c.args.other.now) told (same_site-Decides c.args.self.now c.args.other.now)
