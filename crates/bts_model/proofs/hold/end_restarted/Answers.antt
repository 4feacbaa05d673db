use Rattle.std.proofs.Common.{rules, not}
use Rattle.std.proofs.lemmas.Fn.{filter_same}
use Rattle.bts_model.specs.Restarts.{restarts}
use Rattle.bts_model.proofs.hold.end_restarted.Goals as goal

pub returns : goal.returns
returns g c = filter_same _ (λ h. not (restarts c.args.restart h.place.controller h.place.channel.cell h.place.channel.trx)) _ (λ x b f' says. search rules) _ _ c.retain.ensures.filtered
