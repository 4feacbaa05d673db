use Rattle.std.proofs.Common.{sym, ap, ◌∙◌}
use Rattle.std.specs.FinMap as map
use Rattle.dense_tables.proofs.Kept.{get_entry}
use Rattle.dense_tables.proofs.calls.CallSlots.get.Goals as goal

pub returns : goal.returns
returns g c = record { value = c.entry_in.ensures ∙ sym (get_entry c.self.inside.keys.items c.self.inside.slots.slots c.args.call) ∙ ap (λ m. map.get m c.args.call) c.self.view_is }
