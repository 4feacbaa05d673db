use Rattle.std.proofs.Common.{lit<, rules, tests, List, ℕ}
use Rattle.std.proofs.lemmas.Iterator.Search.{all_from_yields_List}
use Rattle.std.proofs.lemmas.Iterator.Splits.{YieldsList-from_str_split}
use Rattle.expectations.specs.InWords.{has_part}
use Rattle.expectations.proofs.in_words.are_in_words.Goals as goal

pub returns : goal.returns
returns c = record { met = all_from_yields_List (has_part c.args.line.now) _ _ c.all.result c.all.ensures.ran (YieldsList-from_str_split 59 c.args.expected.now (lit< tt) c.split.ensures.text c.split.ensures.has_more c.split.ensures.pattern) (λ x b q k. search (rules, tests)) }
