use Rattle.radio_book.proofs.OwedRows.{steps_raise, two_at_most}
use Rattle.radio_book.proofs.owed.steps_raise.Goals as goal

pub returns : goal.returns
returns c = record { raise = steps_raise; two = two_at_most }
