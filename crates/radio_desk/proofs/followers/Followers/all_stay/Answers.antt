use Rattle.std.proofs.Common.{◌≡◌, ap, ◌∙◌}
use Rattle.std.specs.List.{list_all}
use Rattle.radio_book.specs.declared.following.Followed.{Followed}
use Rattle.radio_book.specs.Following.{stays}
use Rattle.radio_desk.specs.Followers.{step_row, row_of, passes_at}
use Rattle.radio_desk.proofs.RowFacts.{all_stay_by_row}
use Rattle.radio_desk.proofs.followers.Followers.all_stay.Goals as goal

pub returns : goal.returns
returns g c =
    let row : c.row.result.now ≡ row_of c.args.self.now.rows (step_row c.args.step.now) = c.row.ensures ∙ ap (row_of c.args.self.now.rows) c.step_row.ensures.row in
    c.all_stay_at.ensures
    ∙ (λ i. list_all (λ at. passes_at (λ (p : Followed). stays p c.args.step.now) (c.deref.ensures.value i) at) (row i))
    ∙ all_stay_by_row c.args.self.now.rows c.args.self.now.attempts.items c.requires.rows c.args.step.now
