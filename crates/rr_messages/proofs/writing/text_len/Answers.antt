use Rattle.std.proofs.Common.{sym}
use Rattle.rr_messages.proofs.Lengths.{rr_length}
use Rattle.rr_messages.proofs.writing.text_len.Goals as goal

pub returns-clause-len : goal.returns-clause-len
returns-clause-len c = rw (c.part_len.ensures, c.kind.ensures) (sym (rr_length c.args.message.now))

pub returns-clause-count : goal.returns-clause-count
returns-clause-count c = rr_length c.args.message.now
