use Rattle.std.proofs.Common.{◌∙◌, ap, sym}
use Rattle.std.specs.FinMap as map
use Rattle.radio_tables.proofs.EntryFacts.{armed_len}
use Rattle.radio_tables.proofs.trees.Calls.armed.Goals as goal

pub returns : goal.returns
returns g c =
    c.count_armed.ensures.count ∙ sym (armed_len c.self.inside.entries c.count_armed.ensures.ordered) ∙ ap (λ t. map.len t.armed) c.self.view_is
