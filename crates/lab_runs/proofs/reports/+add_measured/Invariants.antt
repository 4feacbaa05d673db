use Rattle.std.proofs.Common.{length}
use Rattle.lab_runs.proofs.reports.+add_measured.Given as goal

abbrev pub decreases-add_measured : goal.decreases-add_measured
decreases-add_measured g l = length l.heard.now
