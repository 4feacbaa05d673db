-- The order of keys is total, and keys that tie are one.
use Rattle.std.proofs.Common.{ℕ, ap}
use Rattle.std.specs.Ordering.{nat_cmp}
use Rattle.std.specs.Cmp.{IsTotalOrder, nat_cmp_total}
use Rattle.std.specs.FinMap.{IsAntisymmetric}
use Rattle.std.proofs.lemmas.Cmp.{on_total, then_total}
use Rattle.std.proofs.lemmas.Map.Lookups.{exact_pairs, exact_unsigned}
use Rattle.bts_model.specs.Keys.{key_cmp}

pub key_total : IsTotalOrder key_cmp
key_total =
    then_total (on_total (λ x. x.controller) nat_cmp_total)
    (then_total (on_total (λ x. x.cell) nat_cmp_total)
    (then_total (on_total (λ x. x.trx) nat_cmp_total)
    (then_total (on_total (λ x. x.tn) nat_cmp_total) (on_total (λ x. x.part) nat_cmp_total))))

pub key_exact : IsAntisymmetric key_cmp
key_exact x y h =
    let tied =
    exact_pairs nat_cmp _ exact_unsigned (exact_pairs nat_cmp _ exact_unsigned (exact_pairs nat_cmp _ exact_unsigned (exact_pairs nat_cmp nat_cmp exact_unsigned exact_unsigned)))
    (x.controller, (x.cell, (x.trx, (x.tn, x.part)))) (y.controller, (y.cell, (y.trx, (y.tn, y.part)))) h in
    ap (λ (p : ℕ × (ℕ × (ℕ × (ℕ × ℕ)))). record { controller = p.0; cell = p.1.0; trx = p.1.1.0; tn = p.1.1.1.0; part = p.1.1.1.1 }) tied
