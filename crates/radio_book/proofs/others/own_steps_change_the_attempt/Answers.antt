use Rattle.radio_book.proofs.GoingOn.{own_steps_change_the_attempt}
use Rattle.radio_book.proofs.others.own_steps_change_the_attempt.Goals as goal

pub returns : goal.returns
returns c = record { changed = own_steps_change_the_attempt }
