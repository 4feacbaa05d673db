use Rattle.std.proofs.Common.{rules, not}
use Rattle.std.proofs.lemmas.Fn.{filter_same}
use Rattle.msc_model.specs.Joins.{is_in}
use Rattle.msc_model.proofs.connection.part.Goals as goal

pub returns-clause-joins : goal.returns-clause-joins
returns-clause-joins g c = filter_same _ (λ j. not (is_in c.args.from j)) _ (λ x b f' says. search rules) _ _ c.retain.ensures.filtered
