use Rattle.std.proofs.Common.{arith, rules}
use Rattle.rr_elements.proofs.ElementLemmas.{cause-text}
use Rattle.rr_elements.proofs.cause.RrCause.encode_into.Goals as goal

pub returns-clause-text : goal.returns-clause-text
returns-clause-text g c = cause-text c.args.self.now (search rules)

pub returns-clause-count : goal.returns-clause-count
returns-clause-count g c = omega (arith, (cause-text c.args.self.now (search rules)).len)
