use Rattle.cell_table.proofs.Same.{same_site-Decides}
use Rattle.cell_table.proofs.laws.same_sites_are_equal.Goals as goal

pub returns : goal.returns
returns c = record { law = same_site-Decides }
