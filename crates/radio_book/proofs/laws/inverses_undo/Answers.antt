use Rattle.radio_book.proofs.Inverses.{inverses_undo}
use Rattle.radio_book.proofs.laws.inverses_undo.Goals as goal

pub returns : goal.returns
returns c = record { undone = inverses_undo }
