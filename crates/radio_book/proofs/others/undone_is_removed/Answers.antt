use Rattle.radio_book.proofs.OthersPhases.{undone_is_removed}
use Rattle.radio_book.proofs.others.undone_is_removed.Goals as goal

pub returns : goal.returns
returns c = record { removed = undone_is_removed }
