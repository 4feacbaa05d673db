use Rattle.std.proofs.Common.{◌<◌, ◌≤◌, cond, is_some, None, get_or, set, length, sym, ap, ◌∙◌, arith}
use Rattle.std.specs.FinMap as map
use Rattle.std.proofs.lemmas.List.{length-set, get_or_read}
use Rattle.dense_tables.specs.Maps.{put}
use Rattle.dense_tables.specs.References.{place_of, users_of, with_user}
use Rattle.dense_tables.proofs.Rowed.{user_written, count_written, user_absent, few_users, no_row}
use Rattle.dense_tables.proofs.references.ReferenceRows.write.Goals as goal

pub overflow_sub-self : goal.overflow_sub-self
overflow_sub-self g c =
    let users = c.self.inside.users.items in
    let r = c.args.reference in
    let at = c.place_of-place.ensures in
    let small : r.number < 256 = omega arith in
    let within : place_of r < length users = omega arith in
    let read = get_or_read users c.place_of-place.result _ (omega arith) c.index-old.ensures None ∙ ap (λ k. get_or users k None) at in
    let one = c.count_of.ensures ∙ ap (λ o. cond (is_some o) 1 0) read in
    let counts = count_written users r None small within in
    omega (arith, one, counts, c.self.invariant.counted)

pub overflow_add-self : goal.overflow_add-self
overflow_add-self g c =
    let users = c.self.inside.users.items in
    let r = c.args.reference in
    let at = c.place_of-place.ensures in
    let small : r.number < 256 = omega arith in
    let within : place_of r < length users = omega arith in
    let read = get_or_read users c.place_of-place.result _ (omega arith) c.index-old.ensures None ∙ ap (λ k. get_or users k None) at in
    let one = c.count_of.ensures ∙ ap (λ o. cond (is_some o) 1 0) read in
    let counts = count_written users r c.args.user small within in
    let most = few_users (set users (place_of r) c.args.user) in
    let long = length-set users (place_of r) c.args.user in
    omega (arith, one, c.count_of-then-place-len.ensures, counts, most, long, c.self.invariant.counted)

pub invariant_of-self : goal.invariant_of-self
invariant_of-self g c =
    let users = c.self.inside.users.items in
    let r = c.args.reference in
    let at = c.place_of-place.ensures in
    let small : r.number < 256 = omega arith in
    let within : place_of r < length users = omega arith in
    let read = get_or_read users c.place_of-place.result _ (omega arith) c.index-old.ensures None ∙ ap (λ k. get_or users k None) at in
    let one = c.count_of.ensures ∙ ap (λ o. cond (is_some o) 1 0) read in
    let counts = count_written users r c.args.user small within in
    let least = count_written users r None small within in
    let same = ap (λ k. map.len (users_of (set users k c.args.user))) at in
    record {
      users_long = length-set users c.place_of-place.result c.args.user ∙ c.self.invariant.users_long;
      counted = omega (arith, one, c.count_of-then-place-len.ensures, counts, least, same, c.self.invariant.counted);
    }

pub returns-then-place-len : goal.returns-then-place-len
returns-then-place-len g c =
    let users = c.self.inside.users.items in
    let r = c.args.reference in
    let at = c.place_of-place.ensures in
    let small : r.number < 256 = omega arith in
    let within : place_of r < length users = omega arith in
    let written = ap (λ k. users_of (set users k c.args.user)) at ∙ user_written users r c.args.user small within in
    (λ i. record { cells = c.self.inside.cells; users = written i }) ∙ ap (λ rows. with_user rows r c.args.user) c.self.view_is

pub returns-else-place-len : goal.returns-else-place-len
returns-else-place-len g c =
    let rows = c.self.inside in
    let users = rows.users.items in
    let r = c.args.reference in
    let at = c.place_of-place.ensures in
    let small : r.number < 256 = omega arith in
    let past : length users ≤ place_of r = omega arith in
    let none = no_row c.args.user r.cell rows.cells r.number (place_of r) (λ some. let row = c.requires some in let cells = ap (λ t. t.cells) c.self.view_is in omega arith) (omega arith) (omega (arith, past, c.self.invariant.users_long)) small in
    let absent = ap (put (users_of users) r) none ∙ user_absent users r past in
    sym c.self.view_is ∙ (λ i. record { cells = rows.cells; users = sym absent i }) ∙ ap (λ t. with_user t r c.args.user) c.self.view_is
