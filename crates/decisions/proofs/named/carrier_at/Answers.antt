use Rattle.std.proofs.Common.{◌∙◌, sym}
use Rattle.decisions.proofs.NamedFacts.{carrier_found}
use Rattle.decisions.proofs.named.carrier_at.Goals as goal

pub returns : goal.returns
returns g c =
    c.carrier_in.ensures.value ∙ carrier_found c.args.site.now c.cells-cells.ensures.limits c.args.serving c.args.position c.in_ok-ba.field-0.now (sym c.in_ok-ba.ensures.value)
