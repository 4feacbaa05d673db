use Rattle.std.proofs.Common.{lit<}
use Rattle.encoded_messages.proofs.NameLemmas.{first_cut}
use Rattle.encoded_messages.proofs.name.around_equals.Goals as goal

pub returns : goal.returns
returns c = first_cut 61 c.args.text.now c.split_once.result c.split_once.ensures.cases (lit< tt)
