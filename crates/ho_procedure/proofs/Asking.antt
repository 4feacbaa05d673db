-- What the rows are proved by.
use Rattle.ho_procedure.proofs.Going.{stays}

pub ruleset row_steps = (stays)
