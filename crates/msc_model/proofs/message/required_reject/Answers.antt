use Rattle.msc_model.proofs.Written.{reject_written}
use Rattle.msc_model.proofs.message.required_reject.Goals as goal

pub returns-clause-canonical : goal.returns-clause-canonical
returns-clause-canonical g c = reject_written c.args.cause
