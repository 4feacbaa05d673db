use Rattle.std.proofs.Common.{length}
use Rattle.lab_script.proofs.report.+all_fields.Given as goal

abbrev pub decreases-all_fields : goal.decreases-all_fields
decreases-all_fields l = length l.text.now
