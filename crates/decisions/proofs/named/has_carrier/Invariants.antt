use Rattle.std.proofs.Common.{◌≡◌, ℕ, ◌<◌, Some, option_map}
use Rattle.cell_table.specs.Site.{identity_at}
use Rattle.decisions.proofs.named.has_carrier.Given as goal

abbrev pub invariant-loop-cell : goal.invariant-loop-cell
invariant-loop-cell g l = (cell : ℕ) → cell < l.cell → option_map (λ c. c.bcch) (identity_at l.site cell) ≡ Some l.carrier → ⊥
