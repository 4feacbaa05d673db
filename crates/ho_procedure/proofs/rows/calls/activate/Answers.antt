use Rattle.std.proofs.Common.{refl, rules}
use Rattle.ho_procedure.specs.Plan.{Ends}
use Rattle.ho_procedure.proofs.Going.{stays}
use Rattle.ho_procedure.proofs.Nameable.{opened}
use Rattle.ho_procedure.proofs.rows.calls.activate.Goals as goal

pub returns-then-is_nameable : goal.returns-then-is_nameable
returns-then-is_nameable g c = record { row = rw (opened c.args.chan (search rules)) (c.send_activation.ensures.goes Ends _ _ (stays _ _ _ _ _ refl)) }
