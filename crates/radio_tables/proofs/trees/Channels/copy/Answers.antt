use Rattle.std.proofs.Common.{◌∙◌, ap}
use Rattle.std.specs.FinMap as map
use Rattle.radio_tables.proofs.CopyFacts.{cloned}
use Rattle.radio_tables.proofs.trees.Channels.copy.Goals as goal

pub returns : goal.returns
returns g c =
    ap map.from_entries (cloned _ _ (λ k j h. h) (λ x y h. h) c.self.inside.states.entries c.in_ok-states.states.entries c.in_ok-states.ensures.cases) ∙ c.self.view_is
