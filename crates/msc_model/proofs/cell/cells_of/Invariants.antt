use Rattle.std.proofs.Common.{◌≡◌, map, take}
use Rattle.msc_model.specs.Cells.{cells_of}
use Rattle.msc_model.proofs.cell.cells_of.Given as goal

-- the sites so far
abbrev pub invariant-loop-controller : goal.invariant-loop-controller
invariant-loop-controller g l = l.cells.items ≡ cells_of (take l.controller (map (λ site. site.value) l.sites))
