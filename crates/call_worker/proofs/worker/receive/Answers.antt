use Rattle.std.proofs.Common.{refl, rules}
use Rattle.call_worker.proofs.Turning.{follows-lost}
use Rattle.call_worker.proofs.worker.receive.Goals as goal

pub returns-clause-follows : goal.returns-clause-follows
returns-clause-follows g c start got f = rw (c.done-2.ensures.passed, c.done-2.ensures.refused) (c.handle_one.ensures.follows start got f)

pub returns-then-not-worker-clause-follows : goal.returns-then-not-worker-clause-follows
returns-then-not-worker-clause-follows g c start got f = rw (c.done.ensures.passed, c.done.ensures.refused) (follows-lost _ start got _ _ _ _ _ _ c.args.input _ _ refl (search rules) f)
