-- Where a handover leads.
use Rattle.std.specs.Prelude.{ℕ, List, Option, Some, None}
use Rattle.bssmap_messages.specs.declared.message.CellId.{CellId}
use Rattle.msc_model.specs.declared.cell.Cell.{Cell}
use Rattle.msc_model.specs.declared.route.Route.{Route}
use Rattle.msc_model.specs.Cells.{target_cell, serving_cell}

abbrev pub between : Option Cell → Option Cell → Option Route
between (Some serving) (Some target) = Some (record { serving = serving; target = target })
between (Some serving) None = None
between None target = None

-- From the first cell of controller k to the cell of another that it asks for. The centre doesn't know which of its
-- cells a call of k is in.
abbrev pub route_of : List Cell → ℕ → Option CellId → Option Route
route_of cells k (Some asked) = between (serving_cell cells k) (target_cell cells k asked)
route_of cells k None = None
