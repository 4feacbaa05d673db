use Rattle.std.proofs.Common.{ap, ◌∙◌}
use Rattle.std.specs.FinMap as map
use Rattle.radio_tables.proofs.dense.DenseTablesTables.timers.Goals as goal

pub returns : goal.returns
returns g c = record { count = c.self.invariant.counted ∙ ap (λ b. map.len b.timers) c.self.view_is }
