use Rattle.std.proofs.Common.{rules}
use Rattle.timeslots.specs.declared.Sub.{Sub}
use Rattle.timeslots.specs.declared.Sub.TheVariants.{Full, Half0, Half1}
use Rattle.bts_model.specs.Answers.{out_of}
use Rattle.bts_model.specs.Restarts.{part_of, failure}
use Rattle.bts_model.proofs.RestartFacts.{three_sent}
use Rattle.bts_model.proofs.restart.add_failures_on.Goals as goal

pub returns-clause-failures : goal.returns-clause-failures
returns-clause-failures g c =
    let of = λ (sub : Sub). failure c.args.slots.now (part_of c.args.trx.now c.args.tn sub) in
    rw (← three_sent out_of c.args.outs.now.items (of Full) (of Half0) (of Half1)) (search rules)
