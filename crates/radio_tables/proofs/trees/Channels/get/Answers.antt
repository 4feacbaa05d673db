use Rattle.std.proofs.Common.{sym, ◌∙◌}
use Rattle.std.specs.FinMap as map
use Rattle.radio_tables.proofs.MapFacts.{get_listed}
use Rattle.radio_tables.proofs.KeyFacts.{chan_total}
use Rattle.radio_tables.proofs.trees.Channels.get.Goals as goal

pub returns : goal.returns
returns g c =
    c.copied.ensures ∙ c.get.ensures.value ∙ sym (get_listed chan_total c.self.inside.states.entries c.of.result)
    ∙ (λ i. map.get (c.self.view_is i) (c.of.ensures i))
