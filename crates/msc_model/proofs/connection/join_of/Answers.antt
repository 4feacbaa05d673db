use Rattle.std.proofs.Common.{◌∙◌, rules, tests}
use Rattle.std.proofs.lemmas.Iterator.{YieldsList-from_slice}
use Rattle.std.proofs.lemmas.Iterator.Search.{find_from_yields_List}
use Rattle.msc_model.specs.Joins.{is_in}
use Rattle.msc_model.proofs.connection.join_of.Goals as goal

pub returns : goal.returns
returns c = c.copied.ensures ∙ find_from_yields_List (is_in c.args.from) _ _ c.find.result c.find.ensures.ran (YieldsList-from_slice c.args.joins.now cc) (λ x b q k. search (rules, tests))
