use Rattle.lab_runs.specs.Asked as said
use Rattle.lab_runs.proofs.asked.all_reports.Given as goal

-- the channels so far were reported on
abbrev pub invariant-loop-index : goal.invariant-loop-index
invariant-loop-index g l = said.AreReportsUpTo l.fn.book l.fn.report l.index l.inputs.items
