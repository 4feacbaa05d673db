use Rattle.std.proofs.Common.{sym, ap, ◌∙◌}
use Rattle.std.specs.FinMap as map
use Rattle.dense_tables.proofs.Rowed.{get_user}
use Rattle.dense_tables.proofs.references.ReferenceRows.get.Goals as goal

pub returns : goal.returns
returns g c = record { value = c.user_in.ensures ∙ sym (get_user c.self.inside.users.items c.args.reference) ∙ ap (λ rows. map.get rows.users c.args.reference) c.self.view_is }
