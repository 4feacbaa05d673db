use Rattle.radio_book.proofs.UndoShown.{awaited_shown}
use Rattle.radio_book.proofs.laws.undos_show_their_targets.Goals as goal

pub returns : goal.returns
returns c = record { shown = awaited_shown }
