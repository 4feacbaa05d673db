use Rattle.std.proofs.Common.{lit<, rules, tests, List, ℕ}
use Rattle.std.proofs.lemmas.Iterator.Consumers.{count_from_yields_List, YieldsList-from_filter, YieldsList-at}
use Rattle.std.proofs.lemmas.Iterator.Splits.{YieldsList-from_str_split}
use Rattle.expectations.specs.Stars.{is_like}
use Rattle.expectations.proofs.words.count_like.Goals as goal

pub returns : goal.returns
returns c =
    count_from_yields_List c.filter.result _ c.count.ensures.ran
    (YieldsList-from_filter _ (λ (other : List ℕ). is_like other c.args.word.now) (YieldsList-at c.filter.ensures.source (YieldsList-from_str_split 32 c.args.text.now (lit< tt) c.split.ensures.text c.split.ensures.has_more c.split.ensures.pattern)) c.filter.ensures.closure (λ x b q k. search (rules, tests)))
