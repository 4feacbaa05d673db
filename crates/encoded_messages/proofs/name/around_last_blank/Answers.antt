use Rattle.std.proofs.Common.{lit<}
use Rattle.encoded_messages.proofs.NameLemmas.{last_cut}
use Rattle.encoded_messages.proofs.name.around_last_blank.Goals as goal

pub returns : goal.returns
returns c = last_cut 32 c.args.text.now c.rsplit_once.result c.rsplit_once.ensures.cases (lit< tt)
