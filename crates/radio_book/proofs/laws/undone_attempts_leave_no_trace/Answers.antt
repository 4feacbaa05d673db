use Rattle.radio_book.proofs.NoTrace.{no_trace}
use Rattle.radio_book.proofs.laws.undone_attempts_leave_no_trace.Goals as goal

pub returns : goal.returns
returns c = record { no_trace = no_trace }
