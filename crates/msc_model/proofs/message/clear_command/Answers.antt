use Rattle.msc_model.proofs.Written.{clear_written}
use Rattle.msc_model.proofs.message.clear_command.Goals as goal

pub returns-clause-canonical : goal.returns-clause-canonical
returns-clause-canonical g c = clear_written c.args.cause
