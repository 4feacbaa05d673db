use Rattle.std.proofs.Common.{arith}
use Rattle.rr_elements.specs.Power.{PowerCommand}
use Rattle.rr_elements.proofs.ElementLemmas.{power-text}
use Rattle.rr_elements.proofs.power.Power.encode_into.Goals as goal

pub returns-clause-text : goal.returns-clause-text
returns-clause-text g c = rw (← c.self.view_is) (power-text _ c.self.invariant)

pub returns-clause-count : goal.returns-clause-count
returns-clause-count g c =
    let v : PowerCommand = record { atc = c.self.inside.atc; level = c.self.inside.level } in
    rw (← c.self.view_is) (omega (arith, (power-text v c.self.invariant).1.len))
