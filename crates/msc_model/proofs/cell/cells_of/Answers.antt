use Rattle.std.proofs.Common.{rules, arith}
use Rattle.msc_model.specs.Cells.{cells_of_site}
use Rattle.octet_elements.proofs.Numbered.{enumerated_next}
use Rattle.msc_model.proofs.cell.cells_of.Goals as goal

pub loop-controller-preserved : goal.loop-controller-preserved
loop-controller-preserved g c =
    rw (enumerated_next cells_of_site c.args.sites.now (λ site. site.value) c.loop-controller.controller c.index-sites-controller.result (omega arith) c.index-sites-controller.is) (search rules)
