use Rattle.std.proofs.Common.{◌≡◌, sym, ap, ◌∙◌, subst}
use Rattle.radio_desk.specs.Followers.{AreRows, IsEnough, step_row, row_of}
use Rattle.radio_desk.proofs.RowFacts.{row_enough, rows_on}
use Rattle.radio_desk.proofs.followers.Followers.go_on.Goals as goal

pub go_on_all-requires : goal.go_on_all-requires
go_on_all-requires g c =
    let row : c.row.result.now ≡ row_of c.args.self.now.rows (step_row c.args.step.now) = c.row.ensures ∙ ap (row_of c.args.self.now.rows) c.step_row-row.ensures.row in
    subst (λ row. IsEnough c.args.self.now.attempts.items row c.args.step.now) (sym row)
    (row_enough c.args.self.now.rows c.args.self.now.attempts.items c.requires.rows c.args.step.now)

pub clean-requires-clause-rows : goal.clean-requires-clause-rows
clean-requires-clause-rows g c =
    subst (AreRows c.args.self.now.rows) (sym c.go_on_all.ensures)
    (rows_on c.args.self.now.rows c.args.self.now.attempts.items c.args.step.now c.requires.rows)
