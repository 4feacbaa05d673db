use Rattle.std.proofs.Common.{◌≡◌, ◌≢◌, ℕ, ◌<◌, Some, option_map}
use Rattle.cell_table.specs.Site.{identity_at}
use Rattle.site_text.proofs.warnings.is_carrier_of_another.Given as goal

abbrev pub invariant-loop-other : goal.invariant-loop-other
invariant-loop-other g l = (other : ℕ) → other < l.other → other ≢ l.cell → option_map (λ c. c.bcch) (identity_at l.site other) ≡ Some l.carrier → ⊥
