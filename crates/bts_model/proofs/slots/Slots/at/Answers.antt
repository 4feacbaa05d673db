use Rattle.std.proofs.Common.{sym, ap, ◌∙◌, unwrap_or}
use Rattle.std.specs.FinMap as map
use Rattle.std.specs.Option.{option_copied}
use Rattle.bts_model.specs.World.{idle}
use Rattle.bts_model.proofs.KeyFacts.{key_total}
use Rattle.bts_model.proofs.MapFacts.{get_listed}
use Rattle.bts_model.proofs.slots.Slots.at.Goals as goal

pub returns-in-Some : goal.returns-in-Some
returns-in-Some g c =
    let there = sym (ap (λ m. map.get m c.args.key) c.self.view_is) ∙ get_listed key_total c.self.inside.entries.entries c.args.key ∙ sym c.get.ensures.value ∙ ap option_copied c.in-Some.is in
    sym (ap (λ o. unwrap_or o idle) there)

pub returns-in-None : goal.returns-in-None
returns-in-None g c =
    let absent = sym (ap (λ m. map.get m c.args.key) c.self.view_is) ∙ get_listed key_total c.self.inside.entries.entries c.args.key ∙ sym c.get.ensures.value ∙ ap option_copied c.in-None.is in
    rw c.none.ensures (sym (ap (λ o. unwrap_or o idle) absent))
