use Rattle.ho_procedure.proofs.MessageFacts.{short_clear_request}
use Rattle.ho_procedure.proofs.outbox.Outbox.clear_request.Goals as goal

pub write_a-requires-clause-short : goal.write_a-requires-clause-short
write_a-requires-clause-short g c = short_clear_request Unit c.args.cause
