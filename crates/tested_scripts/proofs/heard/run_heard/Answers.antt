use Rattle.lab_runs.proofs.CourseFacts.{heard_played}
use Rattle.lab_runs.specs.Sites.{views_of}
use Rattle.tested_scripts.proofs.heard.run_heard.Goals as goal

pub returns-clause-played : goal.returns-clause-played
returns-clause-played g c = heard_played (views_of c.args.sites) _ c.in_ok-course.course c.follow_to_end.new.course c.follow_to_end.result c.in_ok-course.ensures.openings c.follow_to_end.ensures.went
