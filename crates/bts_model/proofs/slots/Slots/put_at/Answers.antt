use Rattle.std.proofs.Common.{sym, ap, ◌∙◌, rules}
use Rattle.std.specs.FinMap as map
use Rattle.bts_model.proofs.KeyFacts.{key_total, key_exact}
use Rattle.bts_model.proofs.MapFacts.{get_listed, insert_listed}
use Rattle.bts_model.proofs.slots.Slots.put_at.Goals as goal

pub returns-in_err-insert-clause-new_key : goal.returns-in_err-insert-clause-new_key
returns-in_err-insert-clause-new_key g c =
    let absent =
    sym (ap (λ m. map.get m c.args.key) c.self.view_is) ∙ get_listed key_total c.self.inside.entries.entries c.args.key
    ∙ c.in_err-insert.ensures.absent in
    search (rules, absent)

pub returns-clause-ok : goal.returns-clause-ok
returns-clause-ok g c =
    insert_listed key_total key_exact c.self.inside.entries.entries c.insert.new.self.entries c.args.key c.args.slot c.in_ok-insert.ensures.updates.0
    ∙ ap (λ m. map.insert m c.args.key c.args.slot) c.self.view_is
