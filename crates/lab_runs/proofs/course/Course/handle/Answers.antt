use Rattle.std.proofs.Common.{ap, ◌∙◌, ◌++◌, ◌∷◌, []}
use Rattle.lab_runs.proofs.CourseFacts.{went_once, where_ok}
use Rattle.lab_runs.proofs.course.Course.handle.Goals as goal

pub returns-clause-went : goal.returns-clause-went
returns-clause-went g c =
    let noted = c.push_reserved.ensures.items ∙ ap (λ front. front ++ c.in-Ok.turn ∷ []) c.reserve.ensures.items in
    where_ok _ c.tell-told.result (went_once _ _ c.in-Ok.turn c.args.source c.args.side c.args.input c.in-Ok.ensures.turn noted c.take_turn.ensures.peer c.in-Ok.ensures.source c.in-Ok.ensures.side c.in-Ok.ensures.input)
