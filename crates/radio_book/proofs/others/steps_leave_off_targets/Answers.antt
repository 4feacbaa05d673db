use Rattle.radio_book.proofs.EachAgrees.{each_agrees}
use Rattle.radio_book.proofs.OthersPhases.{leaves_off_targets}
use Rattle.radio_book.proofs.others.steps_leave_off_targets.Goals as goal

pub returns : goal.returns
returns c = record { leaves = λ e. leaves_off_targets e (each_agrees e) }
