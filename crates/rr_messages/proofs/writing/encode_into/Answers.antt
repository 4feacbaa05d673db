use Rattle.rr_messages.proofs.Texts.{on_ok, text-is}
use Rattle.rr_messages.proofs.writing.encode_into.Goals as goal

pub returns-clause-text : goal.returns-clause-text
returns-clause-text g c = on_ok _ _ (text-is c.args.message.now c.append_part.ensures.part)
