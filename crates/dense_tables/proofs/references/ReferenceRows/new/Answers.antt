use Rattle.std.proofs.Common.{ℕ, sym, ap, ◌∙◌, ◌*◌}
use Rattle.std.specs.FinMap as map
use Rattle.std.specs.FinMap.{len-empty}
use Rattle.dense_tables.specs.Keys.{reference_cmp}
use Rattle.dense_tables.proofs.Rowed.{no_users}
use Rattle.dense_tables.proofs.references.ReferenceRows.new.Goals as goal

pub invariant_of-result : goal.invariant_of-result
invariant_of-result g c = record {
  users_long = c.in_ok-users.ensures.len ∙ ap (λ n. n * 256) c.from.ensures;
  counted = sym (ap map.len (no_users c.in_ok-users.users.items c.in_ok-users.ensures.none) ∙ len-empty reference_cmp ℕ);
}

pub returns : goal.returns
returns g c = record { unused = ap (λ users. record { cells = c.args.cells; users = users }) (no_users c.in_ok-users.users.items c.in_ok-users.ensures.none) }
