use Rattle.std.proofs.Common.{sym, ap, ◌∙◌}
use Rattle.std.specs.FinMap as map
use Rattle.std.specs.Cmp.{unsigned_Decides}
use Rattle.radio_tables.specs.Same.{is_same}
use Rattle.radio_tables.specs.State.{references_code}
use Rattle.radio_tables.proofs.KeyFacts.{reference_total, reference_exact}
use Rattle.radio_tables.proofs.TableFacts.{len_listed}
use Rattle.radio_tables.proofs.SameFacts.{listed_eq, sizes_differ, reference_eq-Decides}
use Rattle.radio_tables.proofs.trees.ReferencesPartialEq.eq.Goals as goal

pub returns-then-len : goal.returns-then-len
returns-then-len g c =
    c.eq.ensures
    ∙ listed_eq reference_total reference_exact reference_eq-Decides unsigned_Decides references_code c.self.inside.users c.other.inside.users c.len.ensures.ordered c.len-2.ensures.ordered
    ∙ (λ i. is_same references_code (c.self.view_is i) (c.other.view_is i))

pub returns-else-len : goal.returns-else-len
returns-else-len g c =
    sizes_differ references_code c.args.self.now c.args.other.now map.len c.len.result c.len-2.result
    (c.len.ensures.len ∙ sym (len_listed reference_total c.self.inside.users c.len.ensures.ordered) ∙ ap map.len c.self.view_is)
    (c.len-2.ensures.len ∙ sym (len_listed reference_total c.other.inside.users c.len-2.ensures.ordered) ∙ ap map.len c.other.view_is) c.if-len.false
