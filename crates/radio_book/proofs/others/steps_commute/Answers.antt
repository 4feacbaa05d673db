use Rattle.radio_book.proofs.EachAgrees.{each_agrees}
use Rattle.radio_book.proofs.OthersPhases.{commutes_with_undone}
use Rattle.radio_book.proofs.others.steps_commute.Goals as goal

pub returns : goal.returns
returns c = record { commutes = λ e. commutes_with_undone e (each_agrees e) }
