use Rattle.radio_book.proofs.OwedRows.{owed_events_lower}
use Rattle.radio_book.proofs.owed.owed_events_lower.Goals as goal

pub returns : goal.returns
returns c = record { lower = owed_events_lower }
