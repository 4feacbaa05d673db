-- What contracts see of a site and its parts.
use Rattle.std.specs.Prelude.{ℕ, List, refl}
use Rattle.std.specs.Coded.{Coded, code_by, coded×, coded_ℕ, coded_list}
use Rattle.cell_table.specs.declared.tables.CellIdentity.{CellIdentity}
use Rattle.cell_table.specs.declared.tables.HandoverRule.{HandoverRule}
use Rattle.cell_table.specs.contracts.tables.CellIdentity.{the_row as identity_row}
use Rattle.cell_table.specs.contracts.tables.HandoverRule.{the_row as handover_row}

-- one TRX: its carrier (an ARFCN, TS 45.005 clause 2), its traffic timeslots, and those of them that also carry half-rate
-- channels (TS 45.002 clause 6.4.1), in the site file's order
pub record TrxView : Type 0 where
  pub arfcn : ℕ
  pub tch : List ℕ
  pub half : List ℕ

-- an own cell: what every cell has, the power level that mobiles begin with (TS 45.005 clause 4.1.1), its BA list
-- (TS 44.018 clause 10.5.2.22) and its TRX, in the site file's order
pub record CellView : Type 0 where
  pub identity : CellIdentity
  pub power : ℕ
  pub ba : List ℕ
  pub trx : List TrxView

-- the own cells and those of others, in the site file's order
pub record SiteView : Type 0 where
  pub handover : HandoverRule
  pub cells : List CellView
  pub outside : List CellIdentity

-- Each of them is stored as the tuple of its parts.
abbrev pub trx_code : Coded TrxView
trx_code =
    code_by (ℕ × (List ℕ × List ℕ)) (coded× coded_ℕ (coded× (coded_list coded_ℕ) (coded_list coded_ℕ)))
    (λ t. (t.arfcn, (t.tch, t.half))) (λ p. record { arfcn = p.0; tch = p.1.0; half = p.1.1 }) (λ _. refl)

abbrev pub cell_code : Coded CellView
cell_code =
    code_by (CellIdentity × (ℕ × (List ℕ × List TrxView)))
    (coded× identity_row.coded (coded× coded_ℕ (coded× (coded_list coded_ℕ) (coded_list trx_code))))
    (λ c. (c.identity, (c.power, (c.ba, c.trx)))) (λ p. record { identity = p.0; power = p.1.0; ba = p.1.1.0; trx = p.1.1.1 }) (λ _. refl)

abbrev pub site_code : Coded SiteView
site_code =
    code_by (HandoverRule × (List CellView × List CellIdentity))
    (coded× handover_row.coded (coded× (coded_list cell_code) (coded_list identity_row.coded)))
    (λ s. (s.handover, (s.cells, s.outside))) (λ p. record { handover = p.0; cells = p.1.0; outside = p.1.1 }) (λ _. refl)
