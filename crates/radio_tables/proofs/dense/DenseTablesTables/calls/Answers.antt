use Rattle.std.proofs.Common.{sym, ap, ◌∙◌}
use Rattle.std.specs.FinMap as map
use Rattle.radio_tables.proofs.DenseFacts.{record_count}
use Rattle.radio_tables.proofs.dense.DenseTablesTables.calls.Goals as goal

pub returns : goal.returns
returns g c = record { count = c.len.ensures.count ∙ sym (record_count c.self.inside.calls) ∙ ap (λ b. map.len b.calls) c.self.view_is }
