use Rattle.radio_book.proofs.AllSettled.{settled_leave_no_trace}
use Rattle.radio_book.proofs.laws.settled_attempts_leave_no_trace.Goals as goal

pub returns : goal.returns
returns c = record { no_trace = settled_leave_no_trace }
