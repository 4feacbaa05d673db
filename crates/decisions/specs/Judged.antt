-- What is asked of a cell's sum, and what it lacks. Ours, of no standard.
use Rattle.std.specs.Prelude.{ℕ, ◌+◌, ◌*◌, ◌<◌, ◌≤◌, length}
use Rattle.cell_table.specs.Views.{SiteView}
use Rattle.measurements.specs.Reports.{Reports, sum_used}
use Rattle.decisions.specs.declared.judged.LeastSums.{LeastSums}
use Rattle.decisions.specs.declared.judged.Lack.{Lack}
use Rattle.decisions.specs.declared.judged.Lack.TheVariants.{Nothing, Margin, Minimum, Both}

-- of each report that there is: the serving cell's level and the margin; the minimum
abbrev pub asked_by : Reports → SiteView → LeastSums
asked_by w site = record {
  margin = sum_used w.reports + site.handover.margin * length w.reports;
  minimum = site.handover.minimum * length w.reports;
}

-- a sum is less than what these ask, and than no other
abbrev pub IsLack : LeastSums → ℕ → Lack → Type 0
IsLack asked sum Nothing = (asked.margin ≤ sum) × (asked.minimum ≤ sum)
IsLack asked sum Margin = (sum < asked.margin) × (asked.minimum ≤ sum)
IsLack asked sum Minimum = (asked.margin ≤ sum) × (sum < asked.minimum)
IsLack asked sum Both = (sum < asked.margin) × (sum < asked.minimum)
