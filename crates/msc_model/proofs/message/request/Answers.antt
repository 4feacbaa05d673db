use Rattle.std.proofs.Common.{rules}
use Rattle.msc_model.proofs.Written.{written_as}
use Rattle.msc_model.proofs.message.request.Goals as goal

pub returns-clause-canonical : goal.returns-clause-canonical
returns-clause-canonical g c = written_as _ c.args.route (search rules)
