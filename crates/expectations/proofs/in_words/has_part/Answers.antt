use Rattle.std.proofs.Common.{lit<, rules, tests, List, ℕ}
use Rattle.std.proofs.lemmas.Iterator.Search.{any_from_yields_List}
use Rattle.std.proofs.lemmas.Iterator.Splits.{YieldsList-from_str_split}
use Rattle.expectations.specs.InWords.{is_part_met}
use Rattle.expectations.proofs.in_words.has_part.Goals as goal

pub returns : goal.returns
returns c = any_from_yields_List (λ (part : List ℕ). is_part_met part c.args.expected.now) _ _ c.any.result c.any.ensures.ran (YieldsList-from_str_split 59 c.args.line.now (lit< tt) c.split.ensures.text c.split.ensures.has_more c.split.ensures.pattern) (λ x b q k. search (rules, tests))
