use Rattle.std.proofs.Common.{rules}
use Rattle.bts_model.specs.Answers.{out_of}
use Rattle.bts_model.specs.Restarts.{failures_on}
use Rattle.bts_model.proofs.RestartFacts.{next_sent}
use Rattle.bts_model.proofs.restart.add_failures_of.Goals as goal

pub loop-tn-preserved : goal.loop-tn-preserved
loop-tn-preserved g c = rw (← next_sent out_of c.args.outs.now.items (failures_on c.args.slots.now c.args.trx.now) c.loop-tn.tn) (search rules)
