use Rattle.std.proofs.Common.{drop}
use Rattle.ho_procedure.specs.Going.{Passes}
use Rattle.ho_procedure.specs.Procedure.{try_plan}
use Rattle.ho_procedure.proofs.rows.mobiles.try_cells.Given as goal

-- the cells before were tried: the rest of the row is left
abbrev pub invariant-loop-candidate : goal.invariant-loop-candidate
invariant-loop-candidate g l = Passes g.D.DeskView.log g.D.DeskView.says l.fn.work (try_plan l.site l.call l.rate l.candidates) l.work (try_plan l.site l.call l.rate (drop l.candidate-index l.candidates))
