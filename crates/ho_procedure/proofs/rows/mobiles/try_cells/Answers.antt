use Rattle.std.proofs.Common.{rules, drop, suc}
use Rattle.ho_procedure.specs.Procedure.{start_plan, try_plan}
use Rattle.ho_procedure.proofs.Trying.{ends_over, tries_next}
use Rattle.ho_procedure.proofs.rows.mobiles.try_cells.Goals as goal

-- the cell is an outside one, or the row went on to its end there
pub returns-in_default-clause-row : goal.returns-in_default-clause-row
returns-in_default-clause-row g c =
    let rest = ends_over _ _ _ _ (λ tail. start_plan c.args.site.now c.args.call _ c.args.rate tail) _ c.in_default.is c.in_ok-start.ensures.goes (try_plan c.args.site.now c.args.call c.args.rate (drop (suc c.loop-candidate.candidate-index) c.args.candidates.now)) in
    c.loop-candidate.invariant _ _ (tries_next _ _ _ _ c.args.site.now c.args.call c.args.rate c.args.candidates.now c.loop-candidate.candidate-index _ (search rules) rest)
