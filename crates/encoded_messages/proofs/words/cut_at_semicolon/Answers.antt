use Rattle.std.proofs.Common.{lit<}
use Rattle.std.proofs.lemmas.Str.Pattern.{split_once_first}
use Rattle.encoded_messages.proofs.WordLemmas.{cut_first}
use Rattle.encoded_messages.proofs.words.cut_at_semicolon.Goals as goal

pub returns : goal.returns
returns c = cut_first 59 c.args.text.now c.split_once.result (split_once_first 59 c.args.text.now c.split_once.result c.split_once.ensures.cases (lit< tt))
