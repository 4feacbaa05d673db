use Rattle.std.proofs.Common.{◌∙◌}
use Rattle.run_counts.proofs.SameReports.{same_what}
use Rattle.run_counts.proofs.counts.is_of.Goals as goal

pub returns : goal.returns
returns c = c.eq.ensures ∙ same_what c.args.what c.args.report
