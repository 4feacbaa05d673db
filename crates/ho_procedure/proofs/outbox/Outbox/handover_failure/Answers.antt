use Rattle.ho_procedure.proofs.MessageFacts.{short_failure}
use Rattle.ho_procedure.proofs.outbox.Outbox.handover_failure.Goals as goal

pub write_a-requires-clause-short : goal.write_a-requires-clause-short
write_a-requires-clause-short g c = short_failure Unit c.args.cause c.args.rr
