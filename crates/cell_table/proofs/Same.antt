-- Where each key says the same, the sites are equal.
use Rattle.std.proofs.Common.{◌≡◌, ℕ, List, Bool, ◌==◌, ap}
use Rattle.std.specs.Bool.{Decides}
use Rattle.std.specs.Cmp.{unsigned_Decides}
use Rattle.std.specs.Cmp.Lexicographic.{pointwise, pointwise_decides}
use Rattle.std.proofs.lemmas.Bool.Decides.{Decides-and}
use Rattle.cell_table.specs.declared.tables.CellIdentity.{CellIdentity}
use Rattle.cell_table.specs.declared.tables.HandoverRule.{HandoverRule}
use Rattle.cell_table.specs.Views.{TrxView, CellView, SiteView}
use Rattle.cell_table.specs.Same.{same_rule, same_identity, same_trx, same_cell, same_site}

-- a test decides the same of what says the same
same_of : {P Q : Type 0} (r : Bool) → Decides r P → (P → Q) → (Q → P) → Decides r Q
same_of r decides there back = (λ e. there (decides.0 e), λ q. decides.1 (back q))

numbers : (xs ys : List ℕ) → Decides (pointwise ◌==◌ xs ys) (xs ≡ ys)
numbers = pointwise_decides unsigned_Decides

pub same_rule-Decides : (x y : HandoverRule) → Decides (same_rule x y) (x ≡ y)
same_rule-Decides x y =
    same_of (same_rule x y)
    (Decides-and _ _ (unsigned_Decides x.window y.window) (Decides-and _ _ (unsigned_Decides x.margin y.margin) (unsigned_Decides x.minimum y.minimum)))
    (λ h i. record { window = h.0 i; margin = h.1.0 i; minimum = h.1.1 i })
    (λ e. (ap (λ r. r.window) e, (ap (λ r. r.margin) e, ap (λ r. r.minimum) e)))

pub same_identity-Decides : (x y : CellIdentity) → Decides (same_identity x y) (x ≡ y)
same_identity-Decides x y =
    same_of (same_identity x y)
    (Decides-and _ _ (unsigned_Decides x.lac y.lac) (Decides-and _ _ (unsigned_Decides x.ci y.ci)
    (Decides-and _ _ (unsigned_Decides x.bcch y.bcch) (Decides-and _ _ (unsigned_Decides x.ncc y.ncc) (unsigned_Decides x.bcc y.bcc)))))
    (λ h i. record { lac = h.0 i; ci = h.1.0 i; bcch = h.1.1.0 i; ncc = h.1.1.1.0 i; bcc = h.1.1.1.1 i })
    (λ e. (ap (λ c. c.lac) e, (ap (λ c. c.ci) e, (ap (λ c. c.bcch) e, (ap (λ c. c.ncc) e, ap (λ c. c.bcc) e)))))

pub same_trx-Decides : (x y : TrxView) → Decides (same_trx x y) (x ≡ y)
same_trx-Decides x y =
    same_of (same_trx x y) (Decides-and _ _ (unsigned_Decides x.arfcn y.arfcn) (Decides-and _ _ (numbers x.tch y.tch) (numbers x.half y.half)))
    (λ h i. record { arfcn = h.0 i; tch = h.1.0 i; half = h.1.1 i }) (λ e. (ap (λ t. t.arfcn) e, (ap (λ t. t.tch) e, ap (λ t. t.half) e)))

pub same_cell-Decides : (x y : CellView) → Decides (same_cell x y) (x ≡ y)
same_cell-Decides x y =
    same_of (same_cell x y)
    (Decides-and _ _ (same_identity-Decides x.identity y.identity) (Decides-and _ _ (unsigned_Decides x.power y.power)
    (Decides-and _ _ (numbers x.ba y.ba) (pointwise_decides same_trx-Decides x.trx y.trx))))
    (λ h i. record { identity = h.0 i; power = h.1.0 i; ba = h.1.1.0 i; trx = h.1.1.1 i })
    (λ e. (ap (λ c. c.identity) e, (ap (λ c. c.power) e, (ap (λ c. c.ba) e, ap (λ c. c.trx) e))))

pub same_site-Decides : (x y : SiteView) → Decides (same_site x y) (x ≡ y)
same_site-Decides x y =
    same_of (same_site x y)
    (Decides-and _ _ (same_rule-Decides x.handover y.handover)
    (Decides-and _ _ (pointwise_decides same_cell-Decides x.cells y.cells) (pointwise_decides same_identity-Decides x.outside y.outside)))
    (λ h i. record { handover = h.0 i; cells = h.1.0 i; outside = h.1.1 i })
    (λ e. (ap (λ s. s.handover) e, (ap (λ s. s.cells) e, ap (λ s. s.outside) e)))
