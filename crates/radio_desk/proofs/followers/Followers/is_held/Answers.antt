use Rattle.std.proofs.Common.{◌≡◌, Some, not, sym, ap, ◌∙◌}
use Rattle.std.specs.List.{list_all}
use Rattle.radio_book.specs.declared.following.Followed.{Followed}
use Rattle.radio_book.specs.Following.{holds}
use Rattle.radio_desk.specs.Followers.{refused_row, row_of, passes_at}
use Rattle.radio_desk.proofs.RowFacts.{held_by_row, none_held}
use Rattle.radio_desk.proofs.followers.Followers.is_held.Goals as goal

pub returns-in-Some : goal.returns-in-Some
returns-in-Some g c =
    let busy : refused_row c.args.step.now ≡ Some c.in-Some.row = sym c.refused_row.ensures.row ∙ c.in-Some.is in
    let free : c.all_are_free_at.result ≡ list_all (λ at. passes_at (λ (p : Followed). not (holds p c.args.step.now)) c.args.self.now.attempts.items at) (row_of c.args.self.now.rows c.in-Some.row) =
    c.all_are_free_at.ensures ∙ (λ i. list_all (λ at. passes_at (λ (p : Followed). not (holds p c.args.step.now)) (c.deref.ensures.value i) at) (c.row.ensures i)) in
    ap not free
    ∙ held_by_row c.args.self.now.rows c.args.self.now.attempts.items c.requires.rows c.args.step.now c.in-Some.row busy

pub returns-in-None : goal.returns-in-None
returns-in-None g c = none_held c.args.self.now.attempts.items c.args.step.now (sym c.refused_row.ensures.row ∙ c.in-None.is)
