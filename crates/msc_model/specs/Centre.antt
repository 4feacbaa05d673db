-- What a simulated switching centre is: the cells of its controllers, the joins, and the calls that have stood in one.
-- Ours, of no standard.
use Rattle.std.specs.Prelude.{List, [], ◌∷◌, ◌++◌, refl}
use Rattle.std.specs.Coded.{Coded, code_by, coded×, coded_list}
use Rattle.cell_table.specs.Views.{SiteView}
use Rattle.msc_model.specs.declared.cell.Cell.{Cell}
use Rattle.msc_model.specs.declared.connection.Connection.{Connection}
use Rattle.msc_model.specs.declared.connection.Join.{Join}
use Rattle.msc_model.specs.contracts.cell.Cell.{the_row as cell_row}
use Rattle.msc_model.specs.contracts.connection.Connection.{the_row as connection_row}
use Rattle.msc_model.specs.contracts.connection.Join.{the_row as join_row}
use Rattle.msc_model.specs.Cells.{cells_of}
use Rattle.msc_model.specs.Joins.{parted}

pub record CentreState : Type 0 where
  -- the own cells of all controllers, by controller and cell
  pub cells : List Cell
  -- the joins that stand, in the order in which they were made
  pub joins : List Join
  -- the calls that have stood in a join, in the order in which they came to
  pub stood : List Connection

abbrev pub centre_code : Coded CentreState
centre_code =
    code_by (List Cell × (List Join × List Connection))
    (coded× (coded_list cell_row.coded) (coded× (coded_list join_row.coded) (coded_list connection_row.coded)))
    (λ w. (w.cells, (w.joins, w.stood))) (λ p. record { cells = p.0; joins = p.1.0; stood = p.1.1 }) (λ _. refl)

-- the centre of these sites, in which no call has stood in a join
abbrev pub fresh_centre : List SiteView → CentreState
fresh_centre sites = record { cells = cells_of sites; joins = []; stood = [] }

-- the centre once the join of the call has ended
abbrev pub without : CentreState → Connection → CentreState
without w c = record w { joins = parted w.joins c }

-- the centre once these calls are joined
abbrev pub joining : CentreState → Connection → Connection → CentreState
joining w asker target = record w {
  joins = w.joins ++ record { asker = asker; target = target } ∷ [];
  stood = w.stood ++ asker ∷ target ∷ [];
}
