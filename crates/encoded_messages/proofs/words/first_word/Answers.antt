use Rattle.std.proofs.Common.{lit<}
use Rattle.std.proofs.lemmas.Str.Pattern.{split_once_first}
use Rattle.encoded_messages.proofs.WordLemmas.{cut_parts, cut_less}
use Rattle.encoded_messages.proofs.words.first_word.Goals as goal

pub returns : goal.returns
returns c =
    let cut = split_once_first 32 c.args.text.now c.split_once.result c.split_once.ensures.cases (lit< tt) in
    record { words = cut_parts 32 c.args.text.now c.split_once.result cut; less = cut_less 32 c.args.text.now c.split_once.result cut }
