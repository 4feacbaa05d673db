use Rattle.std.proofs.Common.{rules, not}
use Rattle.std.proofs.lemmas.Fn.{filter_same}
use Rattle.bts_model.specs.Keys.{is_same_place}
use Rattle.bts_model.proofs.hold.end_holds.Goals as goal

pub returns : goal.returns
returns g c = filter_same _ (λ h. not (is_same_place c.args.place h.place)) _ (λ x b f' says. search rules) _ _ c.retain.ensures.filtered
