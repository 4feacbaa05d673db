use Rattle.std.proofs.Common.{not, ap, ◌∙◌, rules}
use Rattle.std.specs.FinMap as map
use Rattle.std.proofs.lemmas.Map.Made.{filter_same_pairs}
use Rattle.bts_model.specs.declared.place.Key.{Key}
use Rattle.bts_model.specs.Restarts.{restarts}
use Rattle.bts_model.proofs.KeyFacts.{key_total, key_exact}
use Rattle.bts_model.proofs.MapFacts.{retain_listed}
use Rattle.bts_model.proofs.slots.Slots.forget.Goals as goal

pub returns : goal.returns
returns g c =
    let stays = λ (k : Key). not (restarts c.args.restart k.controller k.cell k.trx) in
    let kept = filter_same_pairs _ (λ e. stays e.0) _ (λ k v b w f' says. (search rules, search rules, search rules)) _ _ c.retain.ensures.filtered in
    ap map.from_entries kept ∙ retain_listed key_total key_exact c.self.inside.entries.entries stays ∙ ap (λ m. map.retain_keys m stays) c.self.view_is
