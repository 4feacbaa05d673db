use Rattle.std.proofs.Common.{◌∙◌}
use Rattle.std.proofs.lemmas.Result.{on_ok_weaker}
use Rattle.lab_runs.proofs.CourseFacts.{follows_past}
use Rattle.lab_runs.proofs.course.Course.follow.Goals as goal

pub returns-clause-follows : goal.returns-clause-follows
returns-clause-follows g c = follows_past _ _ _ _ c.settle.result c.in_ok-begin.ensures.follows c.settle.ensures.went

pub returns-clause-sim : goal.returns-clause-sim
returns-clause-sim g c = on_ok_weaker c.settle.result (λ same. same ∙ c.in_ok-begin.ensures.sim) c.settle.ensures.sim
