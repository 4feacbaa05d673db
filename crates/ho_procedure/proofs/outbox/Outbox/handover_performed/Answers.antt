use Rattle.ho_procedure.proofs.MessageFacts.{short_performed}
use Rattle.ho_procedure.proofs.outbox.Outbox.handover_performed.Goals as goal

pub write_a-requires-clause-short : goal.write_a-requires-clause-short
write_a-requires-clause-short g c = short_performed Unit 0x0C c.args.cell
