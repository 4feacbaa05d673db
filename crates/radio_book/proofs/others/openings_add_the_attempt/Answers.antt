use Rattle.radio_book.proofs.OwnSteps.{openings_add_the_attempt}
use Rattle.radio_book.proofs.others.openings_add_the_attempt.Goals as goal

pub returns : goal.returns
returns c = record { added = openings_add_the_attempt }
