use Rattle.std.proofs.Common.{lit<, rules, tests, not}
use Rattle.std.proofs.lemmas.Iterator.Search.{find_from_yields_List}
use Rattle.std.proofs.lemmas.Iterator.Splits.{YieldsList-from_str_split}
use Rattle.encoded_messages.specs.Forms.{keys_of}
use Rattle.encoded_messages.specs.Words.{is_known}
use Rattle.encoded_messages.proofs.words.first_unknown.Goals as goal

pub returns : goal.returns
returns c =
    find_from_yields_List (λ word. not (is_known (keys_of c.args.forms.now) word)) _ _ c.find.result c.find.ensures.ran
    (YieldsList-from_str_split 32 c.args.text.now (lit< tt) c.split.ensures.text c.split.ensures.has_more c.split.ensures.pattern) (λ x b q k. search (rules, tests))
