use Rattle.std.proofs.Common.{◌≡◌, ◌<◌, ◌++◌, ◌∷◌, [], vec_len, rules, arith}
use Rattle.std.specs.Prelude.{length}
use Rattle.radio_desk.proofs.RowFacts.{row_written}
use Rattle.radio_desk.proofs.rows.push_at.Goals as goal

pub returns : goal.returns
returns g c =
    let long : vec_len c.args.rows.now ≡ length c.args.rows.now.items = search rules in
    let within : c.args.row < length c.args.rows.now.items = omega arith in
    row_written (λ row. row.items) c.args.rows.now.items c.args.row c.index_mut.result.now within c.index_mut.ensures.value
    c.push.new.self (λ row. row ++ (c.args.place ∷ [])) c.in_ok-push.ensures.items
