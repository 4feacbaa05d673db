use Rattle.std.proofs.Common.{[]}
use Rattle.std.proofs.lemmas.Result.{on_ok_weaker}
use Rattle.lab_script.specs.declared.script.Given.TheVariants.{Ask}
use Rattle.lab_runs.proofs.CourseFacts.{follows_given, stayed, where_ok}
use Rattle.lab_runs.proofs.course.Course.ask.Goals as goal

pub returns-in-Ok-clause-follows : goal.returns-in-Ok-clause-follows
returns-in-Ok-clause-follows g c =
    let asked = rw c.in-Ok.is at c.in_ok-inputs.ensures.inputs in
    on_ok_weaker c.handle_all.result
    (follows_given (record { side = c.args.side; given = Ask c.args.asked }) c.in-Ok.inputs.items c.args.self.now c.handle_all.new.self c.requires.there asked) c.handle_all.ensures.went

pub returns-in-Err-clause-follows : goal.returns-in-Err-clause-follows
returns-in-Err-clause-follows g c =
    let asked = rw c.in-Err.is at c.in_ok-inputs.ensures.unmet in
    where_ok _ c.hear_unmet.result
    (follows_given (record { side = c.args.side; given = Ask c.args.asked }) [] c.args.self.now c.args.self.now c.requires.there asked (stayed c.args.self.now))
