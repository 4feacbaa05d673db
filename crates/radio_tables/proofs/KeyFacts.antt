-- The orders of the keys are total, and keys that tie are one.
use Rattle.std.proofs.Common.{ℕ, ap}
use Rattle.std.specs.Ordering.{nat_cmp}
use Rattle.std.specs.Cmp.{IsTotalOrder, nat_cmp_total}
use Rattle.std.specs.FinMap.{IsAntisymmetric}
use Rattle.std.proofs.lemmas.Cmp.{on_total, then_total}
use Rattle.std.proofs.lemmas.Map.Lookups.{exact_pairs, exact_unsigned}
pub use Rattle.channel_fsm.proofs.KeyFacts.{chan_total, chan_exact, same_chan_itself, one_chan, other_chan}
use Rattle.radio_tables.specs.Keys.{reference_cmp}

pub reference_total : IsTotalOrder reference_cmp
reference_total = then_total (on_total (λ k. k.cell) nat_cmp_total) (on_total (λ k. k.number) nat_cmp_total)

pub reference_exact : IsAntisymmetric reference_cmp
reference_exact k j h =
    let tied = exact_pairs nat_cmp nat_cmp exact_unsigned exact_unsigned (k.cell, k.number) (j.cell, j.number) h in
    ap (λ (p : ℕ × ℕ). record { cell = p.0; number = p.1 }) tied
