use Rattle.std.proofs.Common.{lit<}
use Rattle.std.proofs.lemmas.Str.Pattern.{split_once_first}
use Rattle.encoded_messages.proofs.WordLemmas.{cut_parts, cut_less}
use Rattle.encoded_messages.proofs.words.first_part.Goals as goal

pub returns : goal.returns
returns c =
    let cut = split_once_first 44 c.args.text.now c.split_once.result c.split_once.ensures.cases (lit< tt) in
    record { parts = cut_parts 44 c.args.text.now c.split_once.result cut; less = cut_less 44 c.args.text.now c.split_once.result cut }
