use Rattle.std.proofs.Common.{lit<}
use Rattle.std.proofs.lemmas.Str.Pattern.{split_parts}
use Rattle.event_text.proofs.Numbers.{cut_by_split}
use Rattle.event_text.proofs.reading.first_part.Goals as goal

pub returns : goal.returns
returns c = cut_by_split 47 c.args.text.now c.split_once.result (split_parts 47 c.args.text.now c.split_once.result c.split_once.ensures.cases (lit< tt))
