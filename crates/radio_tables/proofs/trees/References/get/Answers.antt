use Rattle.std.proofs.Common.{sym, ◌∙◌, ap}
use Rattle.std.specs.FinMap as map
use Rattle.radio_tables.proofs.MapFacts.{get_listed}
use Rattle.radio_tables.proofs.KeyFacts.{reference_total}
use Rattle.radio_tables.proofs.trees.References.get.Goals as goal

pub returns : goal.returns
returns g c =
    c.copied.ensures ∙ c.get.ensures.value ∙ sym (get_listed reference_total c.self.inside.users.entries c.args.reference)
    ∙ ap (λ m. map.get m c.args.reference) c.self.view_is
