use Rattle.std.proofs.Common.{rules, ◌∙◌, is_some, Bor}
use Rattle.std.specs.BTreeMap.{values}
use Rattle.std.proofs.lemmas.Iterator.Consumers.{count_from_yields_List, YieldsList-from_filter, YieldsList-from_rest}
use Rattle.std.proofs.lemmas.List.Sums.{length-filter}
use Rattle.radio_tables.specs.Entries.{Kept}
use Rattle.radio_tables.proofs.trees.count_armed.Goals as goal

pub returns-clause-count : goal.returns-clause-count
returns-clause-count g c =
    let all = values c.args.entries.now in
    count_from_yields_List c.filter.result c.count.result c.count.ensures.ran
    (YieldsList-from_filter {ys = all} _ (λ (k : Kept). is_some k.timer)
    (YieldsList-from_rest {shows = λ (y : Bor Kept). y.now} all (c.filter.ensures.source ∙ c.values.ensures.rest))
    c.filter.ensures.closure (λ x b q h. Prim.search rules))
    ∙ length-filter (λ (k : Kept). is_some k.timer) all
