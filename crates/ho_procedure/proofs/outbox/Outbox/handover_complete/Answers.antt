use Rattle.ho_procedure.proofs.MessageFacts.{short_complete}
use Rattle.ho_procedure.proofs.outbox.Outbox.handover_complete.Goals as goal

pub write_a-requires-clause-short : goal.write_a-requires-clause-short
write_a-requires-clause-short g c = short_complete Unit c.args.rr
