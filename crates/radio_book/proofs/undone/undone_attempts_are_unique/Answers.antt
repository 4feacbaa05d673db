use Rattle.radio_book.proofs.UndoneFacts.{undone_is_unique}
use Rattle.radio_book.proofs.undone.undone_attempts_are_unique.Goals as goal

pub returns : goal.returns
returns c = record { unique = undone_is_unique }
