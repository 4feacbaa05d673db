use Rattle.std.proofs.Common.{◌∙◌}
use Rattle.run_counts.proofs.SameReports.{same_report}
use Rattle.run_counts.proofs.counts.is_same.Goals as goal

pub returns : goal.returns
returns c = c.eq.ensures ∙ same_report c.args.one c.args.other
