use Rattle.std.proofs.Common.{lit<}
use Rattle.std.proofs.lemmas.Str.Pattern.{split_once_first}
use Rattle.lab_script.proofs.WordLemmas.{cut_slash}
use Rattle.link_lines.proofs.words.around_slash.Goals as goal

pub returns : goal.returns
returns c = cut_slash c.args.text.now c.split_once.result (split_once_first 47 c.args.text.now c.split_once.result c.split_once.ensures.cases (lit< tt))
