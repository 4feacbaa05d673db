use Rattle.std.proofs.Common.{◌≡◌, ◌<◌, length, rules, sym, ◌∙◌, subst}
use Rattle.radio_desk.specs.Followers.{AreRows, call_row, target_row, with_place}
use Rattle.radio_desk.proofs.RowFacts.{rows_added}
use Rattle.radio_desk.proofs.followers.Followers.add.Goals as goal

pub returns-clause-rows : goal.returns-clause-rows
returns-clause-rows g c =
    let place : c.len-place.result ≡ length c.args.self.now.attempts.items = search rules in
    let one : c.note.new.self ≡ with_place c.args.self.now.rows (call_row c.args.opening.call) (length c.args.self.now.attempts.items) =
    c.in_ok-note.ensures ∙ (λ i. with_place c.args.self.now.rows (c.call_row.ensures.row i) (place i)) in
    let both : c.note-2.new.self ≡ with_place (with_place c.args.self.now.rows (call_row c.args.opening.call) (length c.args.self.now.attempts.items)) (target_row c.args.opening) (length c.args.self.now.attempts.items) =
    c.in_ok-note-2.ensures ∙ (λ i. with_place (one i) (c.target_row.ensures.row i) (place i)) in
    let call_within = subst (λ row. row < 1280) c.call_row.ensures.row c.call_row.ensures.within in
    let cell_within = subst (λ row. row < 1280) c.target_row.ensures.row c.target_row.ensures.within in
    subst (λ rows. AreRows rows c.push.new.self.items) (sym both)
    (subst (λ ps. AreRows (with_place (with_place c.args.self.now.rows (call_row c.args.opening.call) (length c.args.self.now.attempts.items)) (target_row c.args.opening) (length c.args.self.now.attempts.items)) ps) (sym c.in_ok-push.ensures.items)
    (rows_added c.args.self.now.rows c.args.self.now.attempts.items c.args.opening c.requires.rows call_within cell_within))
