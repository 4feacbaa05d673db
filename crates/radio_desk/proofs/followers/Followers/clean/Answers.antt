use Rattle.std.proofs.Common.{sym, ap, ◌∙◌, subst}
use Rattle.radio_desk.specs.Followers.{AreRows, cleaned}
use Rattle.radio_desk.proofs.RowFacts.{rows_cleaned}
use Rattle.radio_desk.proofs.followers.Followers.clean.Goals as goal

pub returns-clause-rows : goal.returns-clause-rows
returns-clause-rows g c =
    let is = c.clean.ensures ∙ ap (cleaned c.args.self.now.rows c.args.row) c.deref.ensures.value in
    subst (λ rows. AreRows rows c.args.self.now.attempts.items) (sym is)
    (rows_cleaned c.args.self.now.rows c.args.self.now.attempts.items c.args.row c.requires.rows c.requires.within)
