use Rattle.std.proofs.Common.{length}
use Rattle.lab_script.proofs.report.+fault_in.Given as goal

abbrev pub decreases-fault_in : goal.decreases-fault_in
decreases-fault_in l = length l.text.now
