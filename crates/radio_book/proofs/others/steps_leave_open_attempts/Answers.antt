use Rattle.radio_book.proofs.EachAgrees.{each_agrees}
use Rattle.radio_book.proofs.OthersPhases.{leaves_open_attempts}
use Rattle.radio_book.proofs.others.steps_leave_open_attempts.Goals as goal

pub returns : goal.returns
returns c = record { leaves = λ e. leaves_open_attempts e (each_agrees e) }
