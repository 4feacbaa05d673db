use Rattle.std.proofs.Common.{lit<, rules, tests, List, ℕ}
use Rattle.std.proofs.lemmas.Iterator.Search.{all_from_yields_List}
use Rattle.std.proofs.lemmas.Iterator.Splits.{YieldsList-from_str_split}
use Rattle.expectations.specs.Words.{words_of, has_enough_like}
use Rattle.expectations.proofs.words.has_words_like.Goals as goal

pub returns : goal.returns
returns c = all_from_yields_List (has_enough_like (words_of c.args.text.now) (words_of c.args.other.now)) _ _ c.all.result c.all.ensures.ran (YieldsList-from_str_split 32 c.args.other.now (lit< tt) c.split.ensures.text c.split.ensures.has_more c.split.ensures.pattern) (λ x b q k. search (rules, tests))
