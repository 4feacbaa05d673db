use Rattle.radio_book.proofs.records.Records.«open».Goals as goal

pub returns-clause-reply : goal.returns-clause-reply
returns-clause-reply g c = rw c.beginning_on.ensures at c.begin.ensures.reply
