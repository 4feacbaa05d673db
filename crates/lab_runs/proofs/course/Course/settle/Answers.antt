use Rattle.std.proofs.Common.{[], refl, ◌∙◌}
use Rattle.lab_runs.proofs.CourseFacts.{went_on, stayed}
use Rattle.lab_runs.proofs.course.Course.settle.Goals as goal

pub loop-init : goal.loop-init
loop-init g c = record { went = stayed c.args.self.now; sim = refl }

pub loop-preserved : goal.loop-preserved
loop-preserved g c = record {
  went = went_on [] [] _ _ _ c.loop.invariant.went c.in_ok-arrive.ensures.went;
  sim = c.in_ok-arrive.ensures.sim ∙ c.loop.invariant.sim;
}
