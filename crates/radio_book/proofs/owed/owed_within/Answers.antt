use Rattle.radio_book.proofs.OwedRows.{owed_within}
use Rattle.radio_book.proofs.owed.owed_within.Goals as goal

pub returns : goal.returns
returns c = record { within = owed_within }
