use Rattle.std.proofs.Common.{refl, rules, subst}
use Rattle.lab_runs.proofs.CourseFacts.{all_ran}
use Rattle.lab_runs.specs.Sites.{views_of}
use Rattle.lab_runs.specs.Course.{IsRunOf}
use Rattle.lab_runs.proofs.run.play.Goals as goal

pub returns-clause-read : goal.returns-clause-read
returns-clause-read g c =
    let read = rw c.in-Some.is at c.in_ok-items.ensures.read in
    let all = read refl in
    λ _. search (rules, all)

pub returns-clause-ran : goal.returns-clause-ran
returns-clause-ran g c =
    let items = rw c.in-Some.is at c.in_ok-items.ensures.items in
    subst (λ all. IsRunOf (views_of c.args.sites) all c.into_run.result) items
    (all_ran (views_of c.args.sites) _ c.in_ok-course.course c.run.new.self c.into_run.result c.in_ok-course.ensures.openings c.in_ok-course.ensures.turns c.in_ok-run.ensures c.into_run.ensures.turns c.into_run.ensures.controllers)
