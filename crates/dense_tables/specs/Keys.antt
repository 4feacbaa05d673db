-- By what order references stand in a map, and how each is written as numbers; the same of channels stands with them. Ours, of
-- no standard.
use Rattle.std.specs.Prelude.{ℕ, refl}
use Rattle.std.specs.declared.cmp.Ordering.{Ordering}
use Rattle.std.specs.Ordering.{nat_cmp, ordering_then}
use Rattle.std.specs.Coded.{Coded, code_by, coded×, coded_ℕ}
pub use Rattle.channel_fsm.specs.Keys.{chan_cmp, coded_chan}
use Rattle.dense_tables.specs.declared.references.Reference.{Reference}

-- references stand by cell, then number
abbrev pub reference_cmp : Reference → Reference → Ordering
reference_cmp a b = ordering_then (nat_cmp a.cell b.cell) (nat_cmp a.number b.number)

abbrev pub coded_reference : Coded Reference
coded_reference =
    code_by (ℕ × ℕ) (coded× coded_ℕ coded_ℕ) (λ r. (r.cell, r.number)) (λ p. record { cell = p.0; number = p.1 }) (λ _. refl)
