use Rattle.std.proofs.Common.{arith}
use Rattle.rr_elements.proofs.ElementLemmas.{chan-text}
use Rattle.rr_elements.proofs.channel.ChanDescription.encode_into.Goals as goal

pub returns-clause-text : goal.returns-clause-text
returns-clause-text g c = rw (← c.self.view_is) (chan-text _ c.self.invariant)

pub returns-clause-count : goal.returns-clause-count
returns-clause-count g c = rw (← c.self.view_is) (omega (arith, (chan-text _ c.self.invariant).1.len))
