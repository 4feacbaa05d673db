use Rattle.radio_book.proofs.records.Records.take_incoming.Goals as goal

pub returns-clause-reply : goal.returns-clause-reply
returns-clause-reply g c = rw c.coming_to.ensures at c.begin.ensures.reply
