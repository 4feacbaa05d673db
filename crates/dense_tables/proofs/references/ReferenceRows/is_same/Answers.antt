use Rattle.std.proofs.Common.{◌≡◌, ◌*◌, length, sym, ap, ◌∙◌}
use Rattle.dense_tables.specs.References.{users_of}
use Rattle.dense_tables.proofs.Rowed.{users_told}
use Rattle.dense_tables.proofs.references.ReferenceRows.is_same.Goals as goal

pub returns-then-self-other : goal.returns-then-self-other
returns-then-self-other g c =
    let one = c.self.inside.users.items in
    let other = c.other.inside.users.items in
    let cells = c.if-self-other.true in
    let left = c.as_slice.ensures.value in
    let right = c.as_slice-then-self-other.ensures.value in
    let long : length one ≡ length other = c.self.invariant.users_long ∙ ap (λ n. n * 256) cells ∙ sym c.other.invariant.users_long in
    record {
      same = (
        λ same.
            let items : one ≡ other = sym left ∙ c.same_users.ensures.0 same ∙ right in
            sym c.self.view_is ∙ (λ i. record { cells = cells i; users = users_of (items i) }) ∙ c.other.view_is,
        λ same. c.same_users.ensures.1 (left ∙ users_told one other long (ap (λ rows. rows.users) (c.self.view_is ∙ same ∙ sym c.other.view_is)) ∙ sym right),
      );
    }
