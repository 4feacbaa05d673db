-- When two sites are the same: where each key says the same in both, entry by entry.
use Rattle.std.specs.Prelude.{◌==◌, Bool}
use Rattle.std.specs.Ordering.{on, eq_of_both}
use Rattle.std.specs.Cmp.Lexicographic.{pointwise}
use Rattle.cell_table.specs.declared.tables.CellIdentity.{CellIdentity}
use Rattle.cell_table.specs.declared.tables.HandoverRule.{HandoverRule}
use Rattle.cell_table.specs.Views.{TrxView, CellView, SiteView}

abbrev pub same_rule : HandoverRule → HandoverRule → Bool
same_rule = eq_of_both (on (λ r. r.window) ◌==◌) (eq_of_both (on (λ r. r.margin) ◌==◌) (on (λ r. r.minimum) ◌==◌))

abbrev pub same_identity : CellIdentity → CellIdentity → Bool
same_identity =
    eq_of_both (on (λ c. c.lac) ◌==◌) (eq_of_both (on (λ c. c.ci) ◌==◌)
    (eq_of_both (on (λ c. c.bcch) ◌==◌) (eq_of_both (on (λ c. c.ncc) ◌==◌) (on (λ c. c.bcc) ◌==◌))))

abbrev pub same_trx : TrxView → TrxView → Bool
same_trx =
    eq_of_both (on (λ t. t.arfcn) ◌==◌) (eq_of_both (on (λ t. t.tch) (pointwise ◌==◌)) (on (λ t. t.half) (pointwise ◌==◌)))

abbrev pub same_cell : CellView → CellView → Bool
same_cell =
    eq_of_both (on (λ c. c.identity) same_identity) (eq_of_both (on (λ c. c.power) ◌==◌)
    (eq_of_both (on (λ c. c.ba) (pointwise ◌==◌)) (on (λ c. c.trx) (pointwise same_trx))))

abbrev pub same_site : SiteView → SiteView → Bool
same_site =
    eq_of_both (on (λ s. s.handover) same_rule)
    (eq_of_both (on (λ s. s.cells) (pointwise same_cell)) (on (λ s. s.outside) (pointwise same_identity)))
