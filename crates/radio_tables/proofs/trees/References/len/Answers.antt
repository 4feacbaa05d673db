use Rattle.std.proofs.Common.{sym, ◌∙◌, ap}
use Rattle.std.specs.FinMap as map
use Rattle.radio_tables.proofs.TableFacts.{len_listed}
use Rattle.radio_tables.proofs.KeyFacts.{reference_total}
use Rattle.radio_tables.proofs.trees.References.len.Goals as goal

pub returns : goal.returns
returns g c = c.len.ensures.len ∙ sym (len_listed reference_total c.self.inside.users c.len.ensures.ordered) ∙ ap map.len c.self.view_is
