use Rattle.std.proofs.Common.{lit<}
use Rattle.std.proofs.lemmas.Str.Pattern.{strip_prefix_char}
use Rattle.encoded_messages.proofs.WordLemmas.{blank_first}
use Rattle.encoded_messages.proofs.words.behind_blank.Goals as goal

pub returns : goal.returns
returns c = blank_first c.args.text.now c.strip_prefix.result (strip_prefix_char 32 c.args.text.now c.strip_prefix.result c.strip_prefix.ensures.cases (lit< tt))
