use Rattle.std.proofs.Common.{lit<, rules, tests, not, List, ℕ}
use Rattle.std.proofs.lemmas.Iterator.Consumers.{count_from_yields_List, YieldsList-at}
use Rattle.std.proofs.lemmas.Iterator.Search.{YieldsList-from_take_while}
use Rattle.std.proofs.lemmas.Iterator.Splits.{YieldsList-from_str_split}
use Rattle.expectations.specs.Words.{is_field}
use Rattle.expectations.proofs.words.name_length.Goals as goal

pub returns : goal.returns
returns c =
    count_from_yields_List c.take_while.result _ c.count.ensures.ran
    (YieldsList-from_take_while _ (λ (word : List ℕ). not (is_field word)) (YieldsList-at c.take_while.ensures.source (YieldsList-from_str_split 32 c.args.text.now (lit< tt) c.split.ensures.text c.split.ensures.has_more c.split.ensures.pattern)) c.take_while.ensures.closure c.take_while.ensures.done (λ x b q k. search (rules, tests)))
